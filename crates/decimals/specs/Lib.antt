-- Decimal numbers as bytes.
pub mod Decimals
