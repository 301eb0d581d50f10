pub mod Lopcodes
pub mod Table
