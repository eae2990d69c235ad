pub mod Programs
pub mod FirstPlace
pub mod Begins
pub mod BuiltinRows
pub mod PreludeItems
pub mod LawProofs
mod ExampleSugar
mod ExampleMatches
mod ExampleHandlers
mod ExampleNames
mod ExampleItems
mod ExampleBreaches
