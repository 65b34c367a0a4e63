-- The groups of a table by their places, and the index of them.
pub mod Placed
pub mod Index
