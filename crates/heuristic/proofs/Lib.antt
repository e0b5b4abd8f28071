pub mod Preferring
pub mod Relaxing
