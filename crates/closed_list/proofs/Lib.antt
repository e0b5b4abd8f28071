pub mod Pushed
pub mod Differ
pub mod Enters
pub mod ReadBack
pub mod LinkedRows
