mod CallRows
mod CapabilityRows
mod FeatureRows
mod GateRows
mod Search
pub mod SameFeature
