pub mod BeginLemmas
pub mod PieceLemmas
