mod Lists
mod Forms
mod Rows
mod Merging
mod Ranks
mod Behind
mod Steps
pub mod Making
pub mod Starting
pub mod Opening
pub mod Unification
mod Joining
mod Keeping
mod OuterOr
pub mod Connecting
mod Trees
mod Counting
mod Cycles
mod Finishing
pub mod Sizing
pub mod Alike
pub mod Copying
pub mod Forwarding
pub mod Completing
pub mod CopyReadings
pub mod OuterArguments
pub mod CopyForms
pub mod Ending
pub mod Made
pub mod SignatureRecipes
pub mod Signatures
pub mod Staying
pub mod BecomingOuter
pub mod OuterOrGiven
