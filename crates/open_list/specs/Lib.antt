pub mod Refused
pub mod Arrival
pub mod Emptied
