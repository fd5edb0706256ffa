pub mod Pairs
pub mod Misfits
