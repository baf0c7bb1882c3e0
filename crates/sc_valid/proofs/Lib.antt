pub mod CommonLemmas
pub mod FirstKidLemmas
pub mod OrthogonalLemmas
pub mod PairLemmas
pub mod TableLemmas
