pub mod Turns
pub mod Passes
pub mod TurnsCounted
pub mod Filled
pub mod FixedWidth
pub mod Signed
pub mod Constants
pub mod DebugInfo
