pub mod Read
pub mod Course
