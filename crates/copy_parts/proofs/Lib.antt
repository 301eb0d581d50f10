pub mod Lengths
pub mod PartsAt
pub mod PutParts
pub mod FrontPut
pub mod HeadPut
pub mod EndsPut
