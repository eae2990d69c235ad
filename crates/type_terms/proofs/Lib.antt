mod ExampleWords
mod ExampleTerms
mod ExampleAnnotations
mod ExampleData
mod ExamplePatterns
mod ExampleHandlers
mod ExampleItems
mod ExampleAccepted
mod InstancesOfTypes
mod InstancesOfTerms
mod InstancesOfComparisons
pub mod InstancesOfPrograms
pub mod MostGeneral
mod ExampleQueues
