pub mod Fields
pub mod Merged
pub mod PartNames
pub mod Pending
pub mod Standing
