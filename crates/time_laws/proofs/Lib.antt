pub mod Ranges
pub mod Undone
pub mod Answers
pub mod RoundTrip
pub mod ByNumbers
pub mod Examples
