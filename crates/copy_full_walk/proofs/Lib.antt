pub mod Sources
pub mod Full
