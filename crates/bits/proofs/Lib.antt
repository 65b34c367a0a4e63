-- Laws about the lowest number that passes, about one bit of a number, and about sets as rows of words.
pub mod Least
pub mod Bit
pub mod Laws
