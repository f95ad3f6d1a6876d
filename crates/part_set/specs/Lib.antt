pub mod Clashes
pub mod Groups
pub mod NameOrder
pub mod Parts
pub mod Passes
pub mod RootNames
pub mod Runs
pub mod Sets
pub mod Shelf
pub mod Shows
pub mod Visible
pub use Rattle.part_name.specs as part_name
