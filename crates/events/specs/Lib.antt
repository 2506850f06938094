pub mod Events
pub mod Text
pub mod Listing
pub mod Walked
pub mod Lay
