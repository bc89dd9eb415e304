pub mod Links
pub mod Denials
pub mod InheritedPolicy
pub mod PolicyValue
pub mod PackedRows
