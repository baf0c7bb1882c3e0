pub mod AnswerLemmas
pub mod BodyLemmas
pub mod BookLemmas
pub mod ClaimLemmas
pub mod OpenLemmas
