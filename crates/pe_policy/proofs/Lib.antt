pub mod FeatureTable
pub mod OnLiterals
pub mod Refusals
mod Rows
pub mod Stands
pub mod Values
