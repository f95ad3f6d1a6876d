pub mod Blocks
pub mod Clear
pub mod Cores
pub mod Counted
pub mod CrashMarks
pub mod CrashOrder
pub mod EntriesOf
pub mod EntryPlaces
pub mod EntryReads
pub mod Fitting
pub mod InOrder
pub mod Items
pub mod Orphaned
pub mod Readings
pub mod Rising
pub mod Showing
pub mod TableIndexes
pub mod TableMarks
pub mod Tabled
pub mod Undamaged
pub use Rattle.durable_commit.proofs.SameLists as DurableCommitSameLists
pub use Rattle.durable_commit.proofs.WhyRefused as DurableCommitWhyRefused
pub use Rattle.durable_commit.proofs.StageDirImages
pub use Rattle.durable_commit.proofs.StageDirLookups
pub use Rattle.table_core.proofs.MtModelCommands
pub use Rattle.table_core.proofs.MtModelHistories
pub use Rattle.table_core.proofs.MtModelKeys
pub use Rattle.table_core.proofs.MtModelLists
pub use Rattle.table_core.proofs.MtModelTables
pub use Rattle.table_core.proofs.PartHistoryApart
pub use Rattle.table_core.proofs.PartHistoryGrowing
pub use Rattle.table_core.proofs.PartHistoryMerging
pub use Rattle.table_core.proofs.PartHistoryNumbered
pub use Rattle.table_core.proofs.PartNameMerging
pub use Rattle.table_core.proofs.PartNameTexts
pub use Rattle.part_reader.proofs.CutRows as PartReaderCutRows
pub use Rattle.part_reader.proofs.DamagedFiles as PartReaderDamagedFiles
pub use Rattle.part_reader.proofs.HeldRows as PartReaderHeldRows
pub use Rattle.part_reader.proofs.Holding as PartReaderHolding
pub use Rattle.part_reader.proofs.Opened as PartReaderOpened
pub use Rattle.part_reader.proofs.SoundRows as PartReaderSoundRows
pub use Rattle.table_core.proofs.PartSetClearing
pub use Rattle.table_core.proofs.PartSetDots
pub use Rattle.table_core.proofs.PartSetItems
pub use Rattle.table_core.proofs.PartSetMaps
pub use Rattle.table_core.proofs.PartSetNamePlaces
pub use Rattle.table_core.proofs.PartSetNameTexts
pub use Rattle.table_core.proofs.PartSetOrders
pub use Rattle.table_core.proofs.PartSetOrphans
pub use Rattle.table_core.proofs.PartSetPasses
pub use Rattle.table_core.proofs.PartSetShelving
pub use Rattle.table_core.proofs.PartSetSwaps
pub use Rattle.table_core.proofs.PartSetVisibles
pub use Rattle.part_reader.proofs.PartWriterContents
pub use Rattle.table_core.proofs.Keeping as TableCoreKeeping
pub use Rattle.table_core.proofs.Neighbours as TableCoreNeighbours
pub use Rattle.table_core.proofs.Stepping as TableCoreStepping
