pub mod AsciiWords
pub mod Lists
pub mod Expressions
pub mod Allowlists
pub mod ContainerPolicy
pub mod DeclaredLists
