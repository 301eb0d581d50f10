pub mod Cases
pub mod PlaceCases
pub mod Small
pub mod Whole
