pub mod Printing
pub mod Lines
