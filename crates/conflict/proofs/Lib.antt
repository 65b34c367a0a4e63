pub mod Held
pub mod OnlyLines
