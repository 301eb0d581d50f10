pub mod Answers
pub mod Summaries
pub mod BeforeMain
pub mod MainAt
pub mod Spelt
