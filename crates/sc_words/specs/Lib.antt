pub mod Asked
pub mod Numbers
pub mod Table
pub mod Commands
