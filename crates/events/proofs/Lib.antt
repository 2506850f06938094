pub mod Room
pub mod Cases
pub mod Answers
