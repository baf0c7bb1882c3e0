pub mod BodiesLeft
pub mod JournalInside
pub mod Journals
pub mod Stops
pub mod Texts
