pub mod Placed
pub mod Inside
