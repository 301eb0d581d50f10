pub mod Skim
pub mod Source
pub mod Spelt
