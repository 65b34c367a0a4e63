-- The values of literals, groups and bodies, told from codes.
pub mod Given
pub mod Valuing
pub mod Through
pub mod Modelled
pub mod OnlyLines
