pub mod Envs
pub mod Faults
pub mod Lists
pub mod Places
