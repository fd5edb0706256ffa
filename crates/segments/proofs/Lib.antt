pub mod Places
pub mod ExtendsLemmas
pub mod ElementsLemma
pub mod FilledLemmas
pub mod PartnerLemmas
pub mod DigitsLemmas
pub mod Values
pub mod Scans
