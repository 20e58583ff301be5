pub mod Rooms
pub mod RoomLaws
pub mod WidthLaws
