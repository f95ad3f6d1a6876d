pub mod Checked
pub mod Created
pub mod EntryScripts
pub mod FirstNames
pub mod Held
pub mod ImagesShown
pub mod KeptNames
pub mod Leaving
pub mod Lengths
pub mod Loading
pub mod NameReads
pub mod NamesTold
pub mod NextNames
pub mod OneDamage
pub mod Opened
pub mod OpenedRoots
pub mod Settled
pub mod Standing
pub use Rattle.root_store.proofs.PartSetItems
pub use Rattle.root_store.proofs.CrashMarks as RootStoreCrashMarks
pub use Rattle.root_store.proofs.CrashOrder as RootStoreCrashOrder
