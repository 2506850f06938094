pub mod Lists
pub mod Types
pub mod Literals
