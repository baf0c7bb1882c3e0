pub mod Branches
pub mod Children
pub mod Initial
pub mod Receivers
pub mod Runs
pub mod Sends
pub mod Values
