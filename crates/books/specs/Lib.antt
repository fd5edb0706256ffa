pub mod Keeping
pub mod Opened
pub mod Verified
pub mod Carrying
pub mod Opening
pub mod RamDisk
