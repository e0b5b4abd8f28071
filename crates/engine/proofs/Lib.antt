pub mod Gens
pub mod Trees
pub mod Traces
pub mod Bests
pub mod Lent
pub mod Hills
pub mod Right
pub mod Decided
