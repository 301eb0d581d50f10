pub mod EntryNumbers
