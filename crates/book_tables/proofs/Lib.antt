mod Owned
mod Parts
mod Sorts
mod Showing
mod ShownRows
mod KindsAndStates
mod ContentText
mod Places
mod Added
mod Sendings
pub mod OneRegister
mod InOrder
mod ReadLemmas
mod HouseRead
mod MomentParts
mod Addresses
mod OwnEntries
mod FoundRows
mod HasEntries
pub mod AskedLater
pub mod Queries
mod Under
mod Finding
mod UnderTables
mod UnderTest
mod UnclosedTexts
mod LotsFound
pub mod OpenFound
mod AdvicesFound
mod OrdersFound
mod DocumentRows
mod SentFound
mod LastFound
mod Wholes
mod UnderKey
mod SentUnder
mod Looked
pub mod Fits
pub mod NeededParts
pub mod OnceKept
mod WholeRows
mod WholeFound
mod WholeKeyed
mod WholeSorted
mod WholeBook
mod ComparedSoFar
mod ComparedTables
mod NumberedFound
mod NextNames
mod EnrolledOnce
pub mod EnrolledFound
pub mod KeptTables
mod OpenedAnew
