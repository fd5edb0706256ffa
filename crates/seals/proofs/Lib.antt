pub mod Beginnings
pub mod Chains
pub mod Framing
pub mod Collisions
pub mod Notings
mod RowsSeals
