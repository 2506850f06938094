pub mod Documents
pub mod Twelve
pub mod Times
