pub mod Keeping
pub mod Names
pub mod Opened
pub mod Opening
pub use Rattle.root_store.specs.part_set
pub use Rattle.root_store.specs as root_store
