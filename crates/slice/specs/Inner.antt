pub mod Results
pub mod Splice
