pub mod Finds
pub mod Main
pub mod Spots
