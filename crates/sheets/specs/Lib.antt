pub mod SheetEntry
pub mod Holding
