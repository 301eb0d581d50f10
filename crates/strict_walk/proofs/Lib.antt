pub mod Lists
pub mod Exacts
pub mod Flat
pub mod Continued
pub mod HeadAnswers
pub mod Passes
pub mod Passed
