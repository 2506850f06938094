pub mod Sights
pub mod Course
