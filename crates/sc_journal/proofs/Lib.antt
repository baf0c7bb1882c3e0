pub mod Gates
pub mod Held
pub mod Images
pub mod Kept
pub mod NewTexts
pub mod Reading
pub mod Runs
mod LeftLemmas
