pub mod Laws
pub mod Few
pub mod Whole
