-- The text of a reason sheet, when it is broken, and how it is read.
pub mod ReasonSheet
pub mod Reading
