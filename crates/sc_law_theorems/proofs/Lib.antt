pub mod Fitting
pub mod Legal
pub mod Turns
