-- The values of literals, groups and bodies in the interpretation that codes give, and whether it is a model.
pub mod Valued
pub mod Model
pub mod InStructs
