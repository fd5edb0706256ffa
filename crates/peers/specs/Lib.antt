pub mod Gains
pub mod Turns
pub mod Rooms
