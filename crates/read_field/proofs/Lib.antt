pub mod Shows
pub mod ThreeBytes
mod Numbers
pub mod Strings
