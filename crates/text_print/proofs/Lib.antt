mod Powers
pub mod OutputLaws
pub mod GivenLaws
