-- The ranks, and the lines of a reason sheet.
pub mod Found
pub mod Counted
pub mod KnownClean
