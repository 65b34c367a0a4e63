pub mod SheetBytes
pub mod Rooms
