pub mod Hosts
pub mod UsualUrls
pub mod Utf8
pub mod SameOrigin
pub mod OnLiterals
pub mod Rows
