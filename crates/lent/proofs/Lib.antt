pub mod Puts
pub mod Answers
