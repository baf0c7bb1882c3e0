pub mod DiskSteps
pub mod Filled
pub mod StepLemmas
pub mod Undone
