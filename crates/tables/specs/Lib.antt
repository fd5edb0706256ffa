pub mod Ids
pub mod Languages
pub mod Advice
pub mod Order
pub mod Acknowledgment
pub mod Stages
pub mod Rows
pub mod Judged
