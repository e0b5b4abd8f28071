pub mod Tables
pub mod Rounds
pub mod Building
pub mod Marking
pub mod Answering
pub mod Reaching
pub mod Doing
