pub mod Calls
pub mod Capabilities
pub mod Features
