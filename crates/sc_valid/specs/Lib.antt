pub mod FirstKids
pub mod Firsts
pub mod Neighbours
pub mod Numbers
