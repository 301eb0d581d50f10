pub mod Fields
pub mod Summaries
pub mod Inner
