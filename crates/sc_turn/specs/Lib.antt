pub mod Eventless
pub mod Rounds
pub mod Starts
pub mod States
