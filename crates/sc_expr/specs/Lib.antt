pub mod Descent
pub mod Literals
pub mod Numbers
pub mod Reading
pub mod Reads
