pub mod Sends
pub mod InputLemmas
