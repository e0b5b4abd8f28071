pub mod Tables
pub mod Weights
pub mod Laws
pub mod Lawful
pub mod Order
pub mod Lowering
pub mod Greatest
pub mod Sums
