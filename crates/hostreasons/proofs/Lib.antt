pub mod Checking
pub mod Determined
pub mod Writing
pub mod WrittenOnce
pub mod OnlyLines
