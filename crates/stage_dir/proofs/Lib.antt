pub mod Appends
pub mod Images
pub mod Lookups
pub mod Settling
