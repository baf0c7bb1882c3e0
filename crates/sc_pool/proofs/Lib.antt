pub mod ServingLemmas
mod ClientLemmas
mod PoolLemmas
mod SetUpLemmas
mod BookLemmas
mod Crossing
