pub mod Paper
pub mod Readers
