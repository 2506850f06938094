pub mod Documents
pub mod Decimals
pub mod Times
