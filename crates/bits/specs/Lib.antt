-- What a row of 64-bit words means as a set of numbers.
pub mod Sets
pub mod Rows
