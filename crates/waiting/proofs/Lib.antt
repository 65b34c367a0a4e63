-- The records that are looked at to find the lines of a reason sheet.
pub mod Numbering
pub mod Waking
pub mod Awake
pub mod Turns
