pub mod Clearing
pub mod Dots
pub mod Filed
pub mod Founds
pub mod Freeing
pub mod GroupSteps
pub mod Inserts
pub mod Items
pub mod Maps
pub mod NameParts
pub mod NamePlaces
pub mod NameTexts
pub mod Named
pub mod Orders
pub mod Orphans
pub mod Pairs
pub mod PassOrder
pub mod Passes
pub mod Shelving
pub mod Showings
pub mod Swaps
pub mod Visibles
pub use Rattle.part_name.proofs.Merging as PartNameMerging
pub use Rattle.part_name.proofs.Texts as PartNameTexts
