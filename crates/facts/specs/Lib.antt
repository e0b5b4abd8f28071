pub mod Words
pub mod Checks
pub mod Field
pub mod Laws
pub mod Members
pub mod Digest
