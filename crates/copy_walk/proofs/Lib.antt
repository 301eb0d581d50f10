pub mod Nests
pub mod Archive
pub mod Tails
pub mod Loops
pub mod Functions
pub mod Nested
