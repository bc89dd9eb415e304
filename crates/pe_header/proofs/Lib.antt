pub mod HeaderLaws
pub mod MemberLaws
pub mod OnLiterals
mod Rows
