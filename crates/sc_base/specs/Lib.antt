pub mod Ascending
pub mod Folds
pub mod SmallBytes
pub mod Text
pub mod formers
