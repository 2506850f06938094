pub mod Packed
pub mod Ranges
pub mod Answers
