pub mod Picks
pub mod Whole
pub mod Wishes
