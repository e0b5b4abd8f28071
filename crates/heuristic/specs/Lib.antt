pub mod Useful
pub mod Laws
pub mod Relaxation
pub mod GoalCount
pub mod GoalLaws
pub mod Words
