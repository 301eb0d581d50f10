pub mod Spelling
pub mod ReadSpelling
pub mod Inner
