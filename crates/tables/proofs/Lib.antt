pub mod Unknown
pub mod Places
