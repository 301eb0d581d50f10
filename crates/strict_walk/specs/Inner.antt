pub mod StrictParts
pub mod Results
