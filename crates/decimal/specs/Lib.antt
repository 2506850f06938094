pub mod Read
pub mod Write
pub mod Value
pub mod Text
