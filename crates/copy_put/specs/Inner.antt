pub mod Groups
pub mod Put
pub mod Text
