pub mod Exports
pub mod Picking
pub mod Open
pub mod Opened
pub mod PairLines
pub mod Receiving
pub mod PickSheets
