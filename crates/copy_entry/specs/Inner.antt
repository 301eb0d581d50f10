pub mod Passed
pub mod Value
