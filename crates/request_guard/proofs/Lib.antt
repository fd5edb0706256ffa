pub mod Lists
pub mod Passing
mod RowsHosts
mod RowsHeads
