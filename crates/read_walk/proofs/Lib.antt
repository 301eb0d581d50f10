pub mod Entering
pub mod HeadTail
pub mod OneFunction
pub mod Passes
pub mod SoFar
pub mod Main
pub mod Sources
pub mod Spelt
pub mod Unpadded
mod Tally
pub mod Passed
pub mod Headed
