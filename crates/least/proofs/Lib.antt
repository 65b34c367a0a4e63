pub mod Groups
pub mod Walk
pub mod Recorded
mod Examples
