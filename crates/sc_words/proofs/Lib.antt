mod NumberLemmas
mod TableLemmas
pub mod Taken
