pub mod Blocks
pub mod Built
pub mod Ids
pub mod Kept
pub mod Nearest
pub mod Preorder
pub mod Rows
