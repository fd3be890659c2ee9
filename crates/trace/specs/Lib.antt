pub mod Numerals
pub mod Sheets
pub mod Texts
pub mod Written
