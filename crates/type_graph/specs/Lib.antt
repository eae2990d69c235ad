pub mod Copied
pub mod Graph
pub mod Outer
pub mod Signatures
pub mod Sized
pub mod Unified
