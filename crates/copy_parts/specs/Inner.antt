pub mod Ends
pub mod Fronts
pub mod Heads
pub mod Parts
