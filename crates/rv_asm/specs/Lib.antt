pub mod Constant
pub mod Doing
pub mod Found
pub mod Layout
pub mod Lines
pub mod Listing
pub mod Text
pub mod Standing
