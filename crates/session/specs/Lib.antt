pub mod Numbers
pub mod Verdicts
pub mod Account
pub mod Histories
pub mod Promise
pub mod Standing
pub mod Opening
pub mod Writing
