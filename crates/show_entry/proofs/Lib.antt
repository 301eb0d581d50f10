pub mod Cases
mod Values
