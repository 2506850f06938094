pub mod Same
pub mod Zero
pub mod NoDecimal
pub mod Valued
