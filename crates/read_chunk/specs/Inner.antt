pub mod Decoded
pub mod Opening
