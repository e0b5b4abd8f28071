pub mod Permuted
pub mod Fills
pub mod Drains
