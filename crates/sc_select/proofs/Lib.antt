pub mod ChoiceLemmas
pub mod ConflictLemmas
pub mod EnabledLemmas
pub mod ExitLemmas
pub mod KeepLemmas
pub mod RunLemmas
