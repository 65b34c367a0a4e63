-- Laws of decimal numbers, and their digits stored from the last on.
pub mod Laws
pub mod Stores
