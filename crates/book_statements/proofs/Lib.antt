pub mod Limited
pub mod Rising
pub mod DateLemmas
pub mod Ordered
pub mod ShowingTexts
mod Understood
mod MakingTexts
pub mod Values
mod PutLemmas
pub mod KeyLemmas
pub mod UpsertLemmas
pub mod Selects
pub mod WritingTexts
pub mod Beside
mod Upserts
mod KeyedInserts
mod Inserts
mod NewRows
pub mod Passing
mod Freeing
mod Stating
mod CellOrder
mod PutRows
pub mod HoldsLemmas
mod LeadsLemmas
pub mod StepLemmas
pub mod Writes
mod Led
mod LeadingLemmas
mod Lines
mod Applied
pub mod AppendingLemmas
pub mod CreateLemmas
mod Versions
pub mod Carried
pub mod Asked
pub mod ReadingTexts
pub mod Found
pub mod NeedTexts
pub mod OpenTexts
pub mod KnownTexts
pub mod EachTable
pub mod WholeTexts
mod TextSteps
mod RulesTexts
mod MakingAnywhere
mod SelectedTexts
mod SelectedViews
mod SelectedColumns
mod SelectedParts
pub mod RulesReads
pub mod ExpiryReads
mod ExpiryTexts
mod PlacedAnswers
mod Widening
mod ListsGrown
