pub mod CrossingLemmas
pub mod DrawnLemmas
pub mod EndLemmas
pub mod FrontLemmas
pub mod JournalLemmas
pub mod Promise
pub mod RunLemmas
pub mod RunsLemmas
pub mod SayingLemmas
mod StatusLemmas
pub mod ServedLemmas
pub mod StateCountLemmas
