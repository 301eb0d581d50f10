pub mod ModeCases
pub mod Tests
pub mod Variants
pub mod Opcodes
