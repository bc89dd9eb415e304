pub mod OutputText
