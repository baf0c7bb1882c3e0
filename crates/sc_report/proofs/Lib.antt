pub mod EntryLemmas
pub mod OutletLemmas
pub mod SessionLemmas
pub mod TotalLemmas
