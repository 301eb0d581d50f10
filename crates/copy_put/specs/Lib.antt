pub mod Inner
pub mod Lengths
