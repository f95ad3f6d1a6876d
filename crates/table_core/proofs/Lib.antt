pub mod Ends
pub mod Keeping
pub mod Neighbours
pub mod Stepping
pub mod Stored
pub mod Telling
pub use Rattle.part_history.proofs.MtModelCommands
pub use Rattle.part_history.proofs.MtModelDetermined
pub use Rattle.part_history.proofs.MtModelHistories
pub use Rattle.part_history.proofs.MtModelKeys
pub use Rattle.part_history.proofs.MtModelLists
pub use Rattle.part_history.proofs.MtModelOwnColumns
pub use Rattle.part_history.proofs.MtModelSameKeys
pub use Rattle.part_history.proofs.MtModelSorting
pub use Rattle.part_history.proofs.MtModelTables
pub use Rattle.part_history.proofs.Apart as PartHistoryApart
pub use Rattle.part_history.proofs.Counted as PartHistoryCounted
pub use Rattle.part_history.proofs.Growing as PartHistoryGrowing
pub use Rattle.part_history.proofs.Joined as PartHistoryJoined
pub use Rattle.part_history.proofs.Merging as PartHistoryMerging
pub use Rattle.part_history.proofs.Numbered as PartHistoryNumbered
pub use Rattle.part_history.proofs.Orders as PartHistoryOrders
pub use Rattle.part_history.proofs.OwnRows as PartHistoryOwnRows
pub use Rattle.part_history.proofs.Portions as PartHistoryPortions
pub use Rattle.mutation_queue.proofs.PartSetClearing
pub use Rattle.mutation_queue.proofs.PartSetDots
pub use Rattle.mutation_queue.proofs.PartSetItems
pub use Rattle.mutation_queue.proofs.PartSetMaps
pub use Rattle.mutation_queue.proofs.PartSetNamePlaces
pub use Rattle.mutation_queue.proofs.PartSetNameTexts
pub use Rattle.mutation_queue.proofs.PartSetOrders
pub use Rattle.mutation_queue.proofs.PartSetOrphans
pub use Rattle.mutation_queue.proofs.PartNameMerging
pub use Rattle.mutation_queue.proofs.PartNameTexts
pub use Rattle.mutation_queue.proofs.PartSetPasses
pub use Rattle.mutation_queue.proofs.PartSetShelving
pub use Rattle.mutation_queue.proofs.PartSetSwaps
pub use Rattle.mutation_queue.proofs.PartSetVisibles
