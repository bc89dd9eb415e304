pub mod Parts
pub mod PromptSteps
