pub mod Added
pub mod ChosenParts
pub mod Explained
pub mod FoldedAll
pub mod FoldedOnce
pub mod FoldedParts
pub mod FoldedRuns
pub mod FoundRows
pub mod FreeChoices
pub mod Gains
pub mod HidingGranules
pub mod KeyTests
pub mod Making
pub mod MergedRows
pub mod PartitionRuns
pub mod Passing
pub mod Picking
pub mod Renamed
pub mod RowValues
pub mod Scanning
pub mod SomeRun
pub mod Sound
pub mod Sure
pub use Rattle.row_merge.proofs.PartHistoryCounted
pub use Rattle.row_merge.proofs.PartHistoryJoined
pub use Rattle.row_merge.proofs.PartHistoryOrders
pub use Rattle.row_merge.proofs.PartHistoryOwnRows
pub use Rattle.row_merge.proofs.PartHistoryPortions
pub use Rattle.row_merge.proofs.HistoryRows as RowMergeHistoryRows
pub use Rattle.row_merge.proofs.Sound as RowMergeSound
pub use Rattle.row_merge.proofs.RuleLawPartlyRows
pub use Rattle.select_plan.proofs.FoldedMatches as SelectPlanFoldedMatches
pub use Rattle.select_plan.proofs.Planning as SelectPlanPlanning
pub use Rattle.select_plan.proofs.PrimaryMarksSkippedGranules
pub use Rattle.select_plan.proofs.SkipIndexSkipped
