pub mod Results
pub mod Whole
pub mod Row
pub mod Counts
