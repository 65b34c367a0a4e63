-- The lines that the passes find: each is justified, and no literal that is held lacks one.
pub mod Lines
pub mod Rules
pub mod Passes
pub mod Sound
pub mod FoundLines
pub mod Adding
pub mod Counted
