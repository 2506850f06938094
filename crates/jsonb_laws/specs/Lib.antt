pub mod Walked
pub mod Within
pub mod Ends
pub mod Allowed
