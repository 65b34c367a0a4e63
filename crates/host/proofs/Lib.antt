pub mod Bytes
pub mod Evaluating
pub mod Conflict
pub mod Determined
pub mod OnlyLines
