pub mod Shown
pub mod Inner
pub mod Over
