-- The checker of a reason sheet, and how lines are matched with the literals that want them.
pub mod ReasonCheck
pub mod Matching
