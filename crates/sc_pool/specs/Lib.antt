pub mod Serving
pub mod Sharing
pub mod Clients
pub mod Pools
pub mod Plans
pub mod Keeping
pub mod SetUps
pub mod Books
