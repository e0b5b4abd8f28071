pub mod Refused
pub mod Rows
pub mod Linked
pub mod Entered
