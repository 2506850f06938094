pub mod Laid
pub mod Whole
pub mod Index
pub mod Scan
pub mod Bridge
