pub mod OnLiterals
mod Digits
mod Tables
mod Takes
mod OptionWords
mod VerbWords
mod Fits
mod LineReadings
