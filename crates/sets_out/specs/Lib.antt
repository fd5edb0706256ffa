pub mod Appends
pub mod Headings
pub mod Documents
pub mod Handed
pub mod Interchanges
pub mod Inside
