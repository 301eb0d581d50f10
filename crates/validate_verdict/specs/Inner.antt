pub mod Counts
pub mod Totals
