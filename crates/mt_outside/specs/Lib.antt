pub mod Causes
pub mod Counts
pub mod Disk
pub mod DiskCauses
pub mod Files
pub mod Leaves
