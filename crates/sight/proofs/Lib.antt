pub mod Numbers
pub mod Entries
pub mod Good
pub mod Laws
