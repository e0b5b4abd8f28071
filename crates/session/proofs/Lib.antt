pub mod Plans
pub mod Laws
pub mod Fields
pub mod Opening
pub mod Here
pub mod Planning
pub mod Shown
pub mod Written
