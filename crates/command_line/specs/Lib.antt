pub mod Written
pub mod Lines
pub mod Asked
pub mod Parsers
pub mod Rosters
