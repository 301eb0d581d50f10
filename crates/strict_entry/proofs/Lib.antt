pub mod Chains
mod Turns
pub mod Ints
pub mod Entries
