pub mod Expects
pub mod FixedParts
pub mod Answers
