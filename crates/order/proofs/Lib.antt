pub mod Lex
pub mod Values
