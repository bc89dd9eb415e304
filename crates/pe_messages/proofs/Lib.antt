pub mod Rows
pub mod Naming
pub mod Deliveries
pub mod Following
pub mod Addressed
