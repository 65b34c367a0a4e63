pub mod Markable
