pub mod Sums
pub mod Greatest
pub mod Sweeps
pub mod Lawful
pub mod Walks
