pub mod On
pub mod Flat
pub mod FlatSpelt
pub mod CoversParts
pub mod OwnSource
pub mod FrontAnswers
pub mod HeadAnswers
pub mod Counts
