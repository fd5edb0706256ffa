pub mod Subjects
pub mod NeedLists
pub mod Again
