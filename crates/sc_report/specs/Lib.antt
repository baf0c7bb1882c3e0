pub mod Entries
pub mod Lines
pub mod Outlets
pub mod Report
pub mod Summary
