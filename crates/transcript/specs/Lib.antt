pub mod Text
pub mod Replays
