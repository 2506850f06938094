pub mod Bounds
pub mod Fields
pub mod Examples
pub mod Answers
