-- What a rule sheet is made of, and what the reader says at each place.
pub mod Sheet
pub mod Readings
