-- Whole evaluation: what it promises, and what its rounds do.
pub mod Evaluation
pub mod Rounds
