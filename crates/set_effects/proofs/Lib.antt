pub mod Added
pub mod Blocks
pub mod Dates
pub mod Judges
pub mod KeyedLists
pub mod Led
pub mod Loops
pub mod Portions
pub mod Propers
pub mod Rowed
pub mod SetsNamed
pub mod TableChanges
pub mod TableSteps
pub mod Tables
pub mod Takes
pub mod Verdicts
mod RowsTabled
