pub mod ValueSheet
pub mod Lines
pub mod Fitting
