pub mod FullMain
pub mod PlainFull
pub mod Cases
