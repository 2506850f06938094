pub mod Numbers
pub mod Scans
pub mod Parts
pub mod Grouped
pub mod Limits
