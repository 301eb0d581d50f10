pub mod Constants
pub mod Counts
pub mod Absent
