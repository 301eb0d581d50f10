pub mod Writes
pub mod Stores
pub mod Table
