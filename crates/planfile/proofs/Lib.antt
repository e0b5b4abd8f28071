pub mod Files
pub mod Follow
pub mod Sizes
pub mod Listed
pub mod Cuts
pub mod Mapped
