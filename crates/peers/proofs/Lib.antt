pub mod Firsts
pub mod Same
pub mod Staying
