pub mod Readings
pub mod WellFormed
pub mod Laws
pub mod SignatureRules
pub mod OuterLaws
