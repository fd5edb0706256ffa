pub mod Texts
pub mod Reasons
