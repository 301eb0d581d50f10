pub mod Cases
pub mod SummaryLaws
