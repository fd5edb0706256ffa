mod AskingLaws
mod ListLaws
mod ListedLaws
mod HandedLaws
pub mod AnyNetwork
pub mod HaltLaws
mod ToldLaws
mod PathLaws
mod RowsHeard
mod Filling
mod Written
mod Answering
mod OneAnswer
mod ReadingBack
mod RowsTexts
mod RowsNumbers
