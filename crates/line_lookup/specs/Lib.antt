pub mod Ldebug
pub mod Lines
pub mod Inner
