pub mod Ranks
pub mod Ordered
pub mod InTurn
