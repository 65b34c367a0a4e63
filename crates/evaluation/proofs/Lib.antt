pub mod Rounds
pub mod Evaluated
pub mod Laws
pub mod OnlyLines
