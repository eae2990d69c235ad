pub mod Frames
pub mod Changed
pub mod Settled
pub mod Signs
pub mod Reading
pub mod Parsed
