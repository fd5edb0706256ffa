pub mod Growing
pub mod Ending
pub mod Wholes
