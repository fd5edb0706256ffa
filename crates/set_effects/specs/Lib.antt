pub mod SetNames
pub mod Judging
pub mod Proper
pub mod Tabled
