pub mod Moving
pub mod Texts
