pub mod RowLaws
pub mod Fewer
pub mod Agreement
