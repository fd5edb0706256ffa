pub mod Written
pub mod Asked
pub mod Kinds
pub mod Replies
