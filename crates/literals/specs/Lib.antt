pub mod Literals
pub mod Putting
