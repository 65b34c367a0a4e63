pub mod Bytes
pub mod Evaluation
pub mod Conflict
pub mod WholeWords
