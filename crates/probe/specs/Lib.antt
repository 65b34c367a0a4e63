-- How an answer is packed into one number for the tests.
pub mod Packed
