pub mod Merging
pub mod Numerals
pub mod Pieces
pub mod Texts
