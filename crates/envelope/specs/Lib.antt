pub mod Legibility
pub mod Conditions
pub mod Parts
pub mod Halting
