pub mod Schemes
pub mod Places
pub mod Usual
pub mod Origins
pub mod Trust
