pub mod HeapKept
pub mod OneShot
pub mod Resumptions
pub mod ExampleRuns
pub mod ExampleOrder
pub mod ExampleEffects
pub mod ExampleFibers
pub mod ExampleCalls
pub mod ExampleDomains
pub mod ExampleIntegers
pub mod ExampleMeasures
pub mod ExampleEarlyEnds
pub mod ExampleLaws
pub mod ArenaGrows
pub mod TreesStay
mod CoreExamples
pub mod NodeTrees
pub mod ScopesStay
