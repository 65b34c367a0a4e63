-- The group of a number in the words of a record, and that the tests say what a justified line is.
pub mod Nth
pub mod Deciding
pub mod Judging
