pub mod Numbers
pub mod Layout
pub mod Packed
pub mod Read
pub mod Sign
pub mod Write
pub mod Sides
pub mod Course
