pub mod Judged
pub mod Glance
