pub mod Steps
pub mod Grammar
pub mod Place
pub mod Counted
pub mod Examples
