pub mod Connectives
pub mod Truth
