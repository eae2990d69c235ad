pub mod Bases
pub mod Fresh
pub mod Halvings
pub mod Literals
pub mod Room
pub mod Rows
pub mod Steps
pub mod Visiting
