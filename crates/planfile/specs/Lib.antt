pub mod Blocked
pub mod File
pub mod Numbers
pub mod Reads
pub mod Writes
pub mod Laws
