pub mod Order
pub mod Timers
