pub mod Readers
pub mod Shown
pub mod Inner
