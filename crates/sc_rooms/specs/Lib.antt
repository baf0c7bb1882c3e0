pub mod Rooms
pub mod Chains
