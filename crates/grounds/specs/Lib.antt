-- Whether the rule of a record justifies a line that names it, and which lines a table justifies.
pub mod Grounds
