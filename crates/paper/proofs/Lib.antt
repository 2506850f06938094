pub mod Proved
pub mod ShutOut
