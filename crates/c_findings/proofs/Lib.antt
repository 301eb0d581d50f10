pub mod Cases
pub mod Numbered
