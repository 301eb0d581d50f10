pub mod Whole
pub mod RowLaws
pub mod Found
