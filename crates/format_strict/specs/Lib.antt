pub mod GrammarStrict
pub mod ReadStrict
