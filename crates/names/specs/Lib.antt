pub mod Names
pub mod Eights
