pub mod ExactStrict
pub mod StrictLaws
pub mod StrictAgrees
pub mod NoOverflow
pub mod StrictCases
