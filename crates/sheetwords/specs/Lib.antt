pub mod Sheets
pub mod Filling
