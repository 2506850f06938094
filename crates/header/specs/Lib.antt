pub mod Headers
pub mod Course
