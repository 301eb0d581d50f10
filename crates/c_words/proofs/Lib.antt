pub mod WordCases
