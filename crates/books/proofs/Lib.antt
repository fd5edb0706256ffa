mod KeepingLemmas
mod AskedBooks
mod ExtentLemmas
mod GivenLemmas
mod SealingLemmas
mod RulesLemmas
mod OpeningLemmas
mod RamLaws
