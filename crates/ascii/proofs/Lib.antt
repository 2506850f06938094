pub mod Low
pub mod Words
