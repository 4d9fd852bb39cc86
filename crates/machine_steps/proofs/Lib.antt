pub mod LocalSteps
pub mod CallSteps
pub mod RaisingSteps
pub mod ReceivingSteps
pub mod Handlers
pub mod LastRegion
pub mod OperandLists
