-- The records that wait to be looked at, and a search for lines.
pub mod Waiting
pub mod Searching
