pub mod Commands
pub mod Moves
pub mod MoveText
pub mod View
