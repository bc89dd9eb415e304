pub mod DeclaredPolicy
pub mod Members
