pub mod Test
pub mod Find
pub mod Number
