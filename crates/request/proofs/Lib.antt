pub mod Scan
pub mod Value
