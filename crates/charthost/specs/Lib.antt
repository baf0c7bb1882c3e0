pub mod Untold
pub mod UntoldFacts
