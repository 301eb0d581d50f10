pub mod Find
pub mod Spot
