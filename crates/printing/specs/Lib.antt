pub mod Print
pub mod Course
