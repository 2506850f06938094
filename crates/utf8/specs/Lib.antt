pub mod Answer
pub mod Course
