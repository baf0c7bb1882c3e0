pub mod Branching
pub mod Kept
pub mod Needs
pub mod Parts
pub mod Payloads
pub mod Stepping
pub mod Steps
