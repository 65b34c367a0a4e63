pub mod Conflict
pub mod Both
