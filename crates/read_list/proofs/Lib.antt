pub mod Listing
pub mod Counts
pub mod Within
mod Counted
