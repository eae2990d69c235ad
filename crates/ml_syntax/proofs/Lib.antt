pub mod Deepest
pub mod Grows
pub mod ExampleTrees
mod ExamplePrograms
