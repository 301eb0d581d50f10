pub mod Entries
pub mod Values
pub mod Items
pub mod Lists
pub mod Judged
