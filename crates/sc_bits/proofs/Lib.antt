pub mod BitLemmas
pub mod Crossing
pub mod NextBitLemmas
pub mod NumberLemmas
pub mod RowLemmas
