pub mod Handling
pub mod Searching
pub mod Resuming
pub mod Waiting
pub mod Routines
