pub mod Seals
pub mod Noted
