pub mod SlipLaws
pub mod PrintingLaws
pub mod TellingLaws
pub mod ShownLaws
pub mod ActLaws
pub mod EnrolLaws
pub mod HandingLaws
pub mod ClockLaws
pub mod PlayingLaws
pub mod TakesLaws
mod RowsEnrolled
pub mod ServingLaws
mod InitRows
mod ServedAlike
