pub mod Boxes
pub mod Granules
pub mod Indexes
pub mod Masks
