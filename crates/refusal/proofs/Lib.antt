pub mod Laws
pub mod Places
pub mod Questions
pub mod Reasons
