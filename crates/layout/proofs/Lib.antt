pub mod Cond
pub mod Inside
