pub mod Sound
pub mod Semantics
pub mod Numbers
pub mod Records
pub mod Holds
pub mod Laws
