pub mod Builds
pub mod Stacks
pub mod TokenAt
