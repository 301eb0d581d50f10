pub mod Numbers
pub mod Tokens
