pub mod Askers
pub mod Doors
pub mod Reading
