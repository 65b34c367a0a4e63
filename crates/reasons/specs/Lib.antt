-- The writer of reason sheets, and which sheet it picks.
pub mod Sheet
pub mod Reasons
