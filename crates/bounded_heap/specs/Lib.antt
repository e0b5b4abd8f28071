pub mod Waiting
pub mod Order
