pub mod AllFreed
pub mod Busy
pub mod Entering
pub mod Finishing
pub mod Freed
pub mod Handing
pub mod Keeping
pub mod Levels
pub mod Marked
pub mod Marking
pub mod Merging
pub mod Neighbours
pub mod Opening
pub mod Others
pub mod Picked
pub mod Puts
pub mod Putting
pub mod Risen
pub mod Schemas
pub mod Standing
pub mod Stands
pub mod Taking
pub mod Working
pub use Rattle.root_commits.proofs.PartReaderCutRows
pub use Rattle.root_commits.proofs.PartReaderHolding
pub use Rattle.root_commits.proofs.PartSetItems
pub use Rattle.root_commits.proofs.PartSetMaps
pub use Rattle.root_commits.proofs.PartSetOrders
pub use Rattle.root_commits.proofs.PartSetOrphans
pub use Rattle.root_commits.proofs.PartSetShelving
pub use Rattle.root_commits.proofs.PartSetSwaps
pub use Rattle.root_commits.proofs.PartWriterContents
pub use Rattle.root_commits.proofs.CrashTurns as RootCommitsCrashTurns
pub use Rattle.root_commits.proofs.CreateCommits as RootCommitsCreateCommits
pub use Rattle.root_commits.proofs.Holding as RootCommitsHolding
pub use Rattle.root_commits.proofs.Leaving as RootCommitsLeaving
pub use Rattle.root_commits.proofs.MergeCommits as RootCommitsMergeCommits
pub use Rattle.root_commits.proofs.MergedStores as RootCommitsMergedStores
pub use Rattle.root_commits.proofs.PartCommits as RootCommitsPartCommits
pub use Rattle.root_commits.proofs.SameStores as RootCommitsSameStores
pub use Rattle.root_commits.proofs.Turning as RootCommitsTurning
pub use Rattle.root_commits.proofs.RootStoreCores
pub use Rattle.root_commits.proofs.RootStoreEntryReads
pub use Rattle.root_commits.proofs.RootStoreItems
pub use Rattle.root_commits.proofs.RootStoreTableIndexes
pub use Rattle.root_commits.proofs.RootStoreTableMarks
pub use Rattle.root_commits.proofs.MtModelHistories
