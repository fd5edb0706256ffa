pub mod Parsing
pub mod LineLaws
pub mod MomentLaws
mod RowsLines
mod RowsNumbers
mod RosterLaws
mod AskedLaws
mod HostLaws
mod AloneLaws
