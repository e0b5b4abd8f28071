pub mod Sets
pub mod Insert
pub mod Bytes
pub mod Count
pub mod Members
