pub mod Declares
pub mod Effects
pub mod Items
pub mod Tasks
pub mod Texts
pub mod Walk
pub mod Written
