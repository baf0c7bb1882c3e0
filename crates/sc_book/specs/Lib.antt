pub mod Images
pub mod Books
pub mod Claims
pub mod Confirming
pub mod Openings
pub mod Keeping
pub mod Receipts
pub mod Tickets
