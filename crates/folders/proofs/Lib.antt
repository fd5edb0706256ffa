pub mod Claiming
pub mod Handing
pub mod Stopping
pub mod Taking
mod RowsNumbers
mod RowsNames
pub mod ToldLaws
mod RowsEndings
mod RowsRuns
