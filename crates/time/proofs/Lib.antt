pub mod Range
pub mod Number
mod Bytes
pub mod Types
