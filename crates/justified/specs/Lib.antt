-- When a line of a reason sheet is justified, and lines kept by literal.
pub mod Justified
pub mod ByLiteral
