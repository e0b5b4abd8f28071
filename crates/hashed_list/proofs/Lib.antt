pub mod Latest
pub mod Chains
