pub mod Causes
pub mod Counts
pub mod Endings
pub mod Faults
pub mod Opening
pub mod Rests
pub mod Steps
