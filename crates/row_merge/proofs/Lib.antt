pub mod Ahead
pub mod Appending
pub mod Checked
pub mod ChosenGranules
pub mod Copies
pub mod Copying
pub mod Courses
pub mod Cursors
pub mod Explaining
pub mod Failing
pub mod Filling
pub mod FirstGranules
pub mod Folds
pub mod GivenSinks
pub mod GoingOn
pub mod Handing
pub mod HistoryRows
pub mod Keys
pub mod Leading
pub mod Lent
pub mod Lone
pub mod Merges
pub mod Nexts
pub mod Opening
pub mod Passed
pub mod SealedMerges
pub mod Shares
pub mod Ranking
pub mod Readers
pub mod Refilling
pub mod Refills
pub mod Runs
pub mod Sorted
pub mod Sound
pub mod TableMerges
pub mod TableRules
pub mod Taking
pub mod TestTables
pub mod Totals
pub mod Written
pub use Rattle.part_history.proofs.MtModelCommands
pub use Rattle.part_history.proofs.MtModelDetermined
pub use Rattle.part_history.proofs.MtModelSameKeys
pub use Rattle.part_history.proofs.MtModelSorting
pub use Rattle.part_history.proofs.Counted as PartHistoryCounted
pub use Rattle.part_history.proofs.Joined as PartHistoryJoined
pub use Rattle.part_history.proofs.Orders as PartHistoryOrders
pub use Rattle.part_history.proofs.OwnRows as PartHistoryOwnRows
pub use Rattle.part_history.proofs.Portions as PartHistoryPortions
pub use Rattle.part_reader.proofs.ChosenItems as PartReaderChosenItems
pub use Rattle.part_reader.proofs.CutRows as PartReaderCutRows
pub use Rattle.part_reader.proofs.Gaining as PartReaderGaining
pub use Rattle.part_reader.proofs.HeldColumns as PartReaderHeldColumns
pub use Rattle.part_reader.proofs.Holding as PartReaderHolding
pub use Rattle.part_reader.proofs.LeftGranules as PartReaderLeftGranules
pub use Rattle.part_reader.proofs.MetLeft as PartReaderMetLeft
pub use Rattle.part_reader.proofs.SiftedRows as PartReaderSiftedRows
pub use Rattle.rule_replacing.proofs.RuleLawAggregated
pub use Rattle.rule_replacing.proofs.RuleLawAllRows
pub use Rattle.rule_replacing.proofs.RuleLawAlternating
pub use Rattle.rule_replacing.proofs.RuleLawApartColumns
pub use Rattle.rule_replacing.proofs.RuleLawKept
pub use Rattle.rule_replacing.proofs.RuleLawNewest
pub use Rattle.rule_replacing.proofs.RuleLawOneRow
pub use Rattle.rule_replacing.proofs.RuleLawOneSign
pub use Rattle.rule_replacing.proofs.RuleLawOneSum
pub use Rattle.rule_replacing.proofs.RuleLawPartlyRows
pub use Rattle.rule_replacing.proofs.RuleLawRanges
pub use Rattle.rule_replacing.proofs.RuleLawSummed
pub use Rattle.rule_replacing.proofs.RuleLawTableRows
