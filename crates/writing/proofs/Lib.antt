pub mod Laid
pub mod Shade
pub mod Parts
