mod Doubles
mod Fields
pub mod Placed
pub mod Exact
