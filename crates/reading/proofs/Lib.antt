pub mod Shown
pub mod Sided
