pub mod Blanks
pub mod FirstTokens
pub mod Parts
pub mod Places
pub mod Reads
pub mod Scripts
pub mod Strings
