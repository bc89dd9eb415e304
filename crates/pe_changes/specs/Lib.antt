pub mod Bags
pub mod Gathered
pub mod Parts
pub mod StatusSteps
pub mod StoreSteps
