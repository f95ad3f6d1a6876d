pub mod Returning
pub mod Sealing
pub use Rattle.shared_store.proofs.Finishing as SharedStoreFinishing
pub use Rattle.shared_store.proofs.Levels as SharedStoreLevels
pub use Rattle.shared_store.proofs.Opening as SharedStoreOpening
pub use Rattle.shared_store.proofs.Schemas as SharedStoreSchemas
pub use Rattle.shared_store.proofs.Standing as SharedStoreStanding
pub use Rattle.shared_store.proofs.MtModelHistories
pub use Rattle.shared_store.proofs.PartReaderCutRows
pub use Rattle.shared_store.proofs.PartReaderHolding
pub use Rattle.shared_store.proofs.PartSetItems
pub use Rattle.shared_store.proofs.PartSetOrders
pub use Rattle.shared_store.proofs.PartWriterContents
pub use Rattle.shared_store.proofs.RootCommitsLeaving
pub use Rattle.shared_store.proofs.RootStoreEntryReads
pub use Rattle.shared_store.proofs.RootStoreItems
pub use Rattle.shared_store.proofs.RootStoreTableIndexes
pub use Rattle.shared_store.proofs.RootStoreTableMarks
