pub mod DigitLemmas
pub mod FaultLemmas
pub mod KeyLemmas
pub mod Printed
pub mod SplitLemmas
pub mod TreeLemmas
pub mod WalkLemmas
pub mod WholeLemmas
