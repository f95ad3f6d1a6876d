pub mod Aggregated
pub mod AllRows
pub mod Alternating
pub mod ApartColumns
pub mod Assigned
pub mod Bits
pub mod Changed
pub mod ChangedRows
pub mod Kept
pub mod Letting
pub mod Merging
pub mod Newest
pub mod OneRow
pub mod OneSign
pub mod OneSum
pub mod PartlyChanged
pub mod PartlyRows
pub mod Ranges
pub mod Summed
pub mod TableRows
pub use Rattle.mt_model.proofs.Commands as MtModelCommands
pub use Rattle.mt_model.proofs.Determined as MtModelDetermined
pub use Rattle.mt_model.proofs.Growing as MtModelGrowing
pub use Rattle.mt_model.proofs.Histories as MtModelHistories
pub use Rattle.mt_model.proofs.Keys as MtModelKeys
pub use Rattle.mt_model.proofs.Lists as MtModelLists
pub use Rattle.mt_model.proofs.Merged as MtModelMerged
pub use Rattle.mt_model.proofs.OneWay as MtModelOneWay
pub use Rattle.mt_model.proofs.OwnColumns as MtModelOwnColumns
pub use Rattle.mt_model.proofs.Places as MtModelPlaces
pub use Rattle.mt_model.proofs.PredicateNarrowing as MtModelPredicateNarrowing
pub use Rattle.mt_model.proofs.SameKeys as MtModelSameKeys
pub use Rattle.mt_model.proofs.Sorting as MtModelSorting
pub use Rattle.mt_model.proofs.Tables as MtModelTables
