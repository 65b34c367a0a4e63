pub mod Filling
pub mod Turns
pub mod Through
pub mod Laws
pub mod Names
pub mod Heads
