pub mod Signs
pub mod Words
pub mod Macros
pub mod Created
pub mod RoundTrip
pub mod Ranges
pub mod Cases
