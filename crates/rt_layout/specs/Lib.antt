pub mod Block
pub mod Part
pub mod Assembly
pub mod Allocation
pub mod Shared
