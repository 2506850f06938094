pub mod Said
pub mod Before
