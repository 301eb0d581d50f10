pub mod PartNumbers
