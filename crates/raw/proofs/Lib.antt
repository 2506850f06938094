pub mod Values
pub mod Parts
pub mod Bounds
pub mod Filled
pub mod Written
pub mod Examples
