pub mod Rules
pub mod Findings
pub mod Rust
pub mod Inner
