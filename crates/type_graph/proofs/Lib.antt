pub mod Counted
pub mod Forwarding
pub mod Links
pub mod Opening
pub mod Outward
pub mod Pairs
pub mod Uppermost
