pub mod RoomTexts
pub mod Replays
