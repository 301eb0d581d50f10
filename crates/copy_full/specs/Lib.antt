pub mod InFull
