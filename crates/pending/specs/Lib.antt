-- Held and Clean from pending literals.
pub mod Pending
