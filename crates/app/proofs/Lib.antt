pub mod Asking
mod BeginLemmas
mod StopLemmas
mod NothingLemmas
mod UnopenedLemmas
mod FromFileLemmas
mod LeftLemmas
mod CrossLemmas
mod AgainLemmas
mod DaysLemmas
mod EndLemmas
mod GrownLemmas
mod RerunLemmas
mod KeptLemmas
mod JobLemmas
mod AskingLemmas
mod CheckingLemmas
mod SessionLemmas
