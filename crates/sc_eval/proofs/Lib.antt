pub mod Opened
pub mod Layers
pub mod Rows
pub mod Same
pub mod Tables
