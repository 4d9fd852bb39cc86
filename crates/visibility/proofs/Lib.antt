pub mod FoundParts
pub mod Phase
pub mod SelfSteps
