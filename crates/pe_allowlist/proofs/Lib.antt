pub mod DeclaredLaws
pub mod HostLaws
pub mod OnLiterals
pub mod PairLaws
pub mod PieceLaws
pub mod PlaceLaws
mod Rows
pub mod SeparatorLaws
pub mod WordLaws
