pub mod Fields
pub mod Splices
pub mod Tails
pub mod Same
