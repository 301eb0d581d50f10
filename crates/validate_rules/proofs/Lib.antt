pub mod RuleCases
pub mod Glances
pub mod RustLaws
pub mod FewFindings
pub mod Cases
pub mod StopCases
pub mod StopLaws
