pub mod Cases
pub mod Names
