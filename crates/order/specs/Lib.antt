pub mod Value
pub mod Course
