pub mod Accepted
pub mod Added
pub mod CrashCommits
pub mod CrashImages
pub mod CrashNames
pub mod CrashSafe
pub mod CrashTurns
pub mod CreateCommits
pub mod Ending
pub mod Entering
pub mod FreeNames
pub mod Growing
pub mod Hiding
pub mod Holding
pub mod Inserted
pub mod Joining
pub mod Leaving
pub mod MergeCauses
pub mod MergeCommits
pub mod MergeCrashes
pub mod MergeReady
pub mod MergeTurns
pub mod MergedNames
pub mod MergedRoots
pub mod MergedShown
pub mod MergedStores
pub mod PartCommits
pub mod Partitions
pub mod Placed
pub mod PutEvents
pub mod RunRows
pub mod RunStands
pub mod SameStores
pub mod Shown
pub mod Sounding
pub mod StartedAgain
pub mod TurnCrashes
pub mod Turning
pub mod Updated
pub use Rattle.root_store.proofs.MtModelHistories
pub use Rattle.root_store.proofs.MtModelTables
pub use Rattle.root_store.proofs.PartReaderCutRows
pub use Rattle.root_store.proofs.PartReaderHolding
pub use Rattle.root_store.proofs.PartSetClearing
pub use Rattle.root_store.proofs.PartSetItems
pub use Rattle.root_store.proofs.PartSetMaps
pub use Rattle.root_store.proofs.PartSetOrders
pub use Rattle.root_store.proofs.PartSetOrphans
pub use Rattle.root_store.proofs.PartSetShelving
pub use Rattle.root_store.proofs.PartSetSwaps
pub use Rattle.root_store.proofs.PartWriterContents
pub use Rattle.root_store.proofs.Cores as RootStoreCores
pub use Rattle.root_store.proofs.EntryReads as RootStoreEntryReads
pub use Rattle.root_store.proofs.Items as RootStoreItems
pub use Rattle.root_store.proofs.TableIndexes as RootStoreTableIndexes
pub use Rattle.root_store.proofs.TableMarks as RootStoreTableMarks
