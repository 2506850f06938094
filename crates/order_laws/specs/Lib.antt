pub mod Plain
pub mod Examples
pub mod Order
