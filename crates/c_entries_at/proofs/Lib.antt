pub mod Cases
pub mod Arrays
