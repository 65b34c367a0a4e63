-- Which group of a body is wholly in a set, and what the walks through a table find.
pub mod Groups
pub mod Walk
