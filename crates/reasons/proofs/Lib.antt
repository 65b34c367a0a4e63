-- How the sheet grows literal by literal, and that it is the checker's.
pub mod Growing
pub mod Writing
pub mod Accepted
pub mod Determined
