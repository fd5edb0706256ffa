mod RowsLots
pub mod RowsFullOrder
mod RowsFullAnswer
mod RowsSheetLimits
mod RowsLastNumber
mod RowsPicking
