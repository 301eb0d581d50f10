pub mod Anchors
pub mod Judged
pub mod Numbered
pub mod Walk
pub mod Steps
pub mod Rows
