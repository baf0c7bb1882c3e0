pub mod Conditions
pub mod Steps
pub mod Targets
pub mod Triples
pub mod Union
pub mod Entering
