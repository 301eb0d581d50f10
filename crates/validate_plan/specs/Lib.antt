pub mod Validated
pub mod Inner
