pub mod PairLaws
pub mod Ascending
mod OrderLaws
mod RefusalLaws
mod SheetLaws
pub mod Told
