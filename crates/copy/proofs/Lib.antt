pub mod Cases
pub mod Chunks
pub mod MainUpvalues
pub mod Outcomes
pub mod PlainChunks
