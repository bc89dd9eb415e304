pub mod Activation
pub mod Prefix
