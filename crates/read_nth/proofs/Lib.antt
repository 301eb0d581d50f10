pub mod Passing
pub mod Items
pub mod Strings
