pub mod FindingNumbers
