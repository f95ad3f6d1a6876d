pub mod Annals
pub mod Disks
pub mod Folders
pub mod Pieces
pub mod Streams
