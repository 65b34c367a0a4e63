-- Laws about tests, about a set with one besides, about counting, about finding one and about the numbers below n.
pub mod Tests
pub mod Besides
pub mod Counting
pub mod Some
pub mod Numbers
pub mod First
