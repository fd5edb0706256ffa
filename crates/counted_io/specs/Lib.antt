pub mod Inputs
pub mod Gauges
