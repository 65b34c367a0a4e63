-- A line's justification gives Definition 9's condition, and every well-supported interpretation has justified lines.
pub mod Laws
pub mod Ranked
