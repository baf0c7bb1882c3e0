pub mod Devices
pub mod Journals
pub mod Promise
pub mod Run
pub mod Running
pub mod Sayings
pub mod ScriptFaults
pub mod Statuses
