pub mod Assembling
pub mod Places
