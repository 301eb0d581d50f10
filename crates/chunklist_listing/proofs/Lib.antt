pub mod Prints
pub mod Chunks
pub mod Cases
pub mod ReadLaws
