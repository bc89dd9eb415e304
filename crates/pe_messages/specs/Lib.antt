pub mod MessageSteps
pub mod Parts
