pub mod Counts
pub mod Gone
pub mod Maps
pub mod Shelves
pub mod Tables
pub mod Waiting
pub use Rattle.part_set.proofs.Clearing as PartSetClearing
pub use Rattle.part_set.proofs.Dots as PartSetDots
pub use Rattle.part_set.proofs.Items as PartSetItems
pub use Rattle.part_set.proofs.Maps as PartSetMaps
pub use Rattle.part_set.proofs.NamePlaces as PartSetNamePlaces
pub use Rattle.part_set.proofs.NameTexts as PartSetNameTexts
pub use Rattle.part_set.proofs.Orders as PartSetOrders
pub use Rattle.part_set.proofs.Orphans as PartSetOrphans
pub use Rattle.part_set.proofs.PartNameMerging
pub use Rattle.part_set.proofs.PartNameTexts
pub use Rattle.part_set.proofs.Passes as PartSetPasses
pub use Rattle.part_set.proofs.Shelving as PartSetShelving
pub use Rattle.part_set.proofs.Swaps as PartSetSwaps
pub use Rattle.part_set.proofs.Visibles as PartSetVisibles
