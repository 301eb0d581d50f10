pub mod Front
pub mod Parts
pub mod PartsShown
pub mod PartsSpelt
pub mod Inner
