pub mod CallerLemmas
pub mod EntryLemmas
pub mod KeptLemmas
pub mod SendLemmas
pub mod SweepLemmas
