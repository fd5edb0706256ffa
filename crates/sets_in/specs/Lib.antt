pub mod Limits
pub mod Amounts
pub mod Spaced
pub mod Places
pub mod Said
pub mod SaidAck
pub mod SaidOrder
pub mod TradeFaults
