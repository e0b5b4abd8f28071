pub mod Commands
pub mod Text
pub mod Written
