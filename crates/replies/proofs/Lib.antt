pub mod Causing
pub mod Counting
pub mod Ends
pub mod Meeting
pub mod Refusing
pub mod Undamaged
pub use Rattle.mt_model.proofs.Causes as MtModelCauses
pub use Rattle.mt_model.proofs.Commands as MtModelCommands
pub use Rattle.mt_model.proofs.Determined as MtModelDetermined
pub use Rattle.mt_model.proofs.Gained as MtModelGained
pub use Rattle.mt_model.proofs.Growing as MtModelGrowing
pub use Rattle.mt_model.proofs.Keys as MtModelKeys
pub use Rattle.mt_model.proofs.Merged as MtModelMerged
pub use Rattle.mt_model.proofs.OwnColumns as MtModelOwnColumns
pub use Rattle.mt_model.proofs.Ranges as MtModelRanges
pub use Rattle.mt_model.proofs.Replies as MtModelReplies
pub use Rattle.mt_model.proofs.SameKeys as MtModelSameKeys
pub use Rattle.mt_model.proofs.Tables as MtModelTables
pub use Rattle.mt_model.proofs.Unrefused as MtModelUnrefused
pub use Rattle.mt_model.proofs.PredicateNarrowing
pub use Rattle.run_streams.proofs.Known as RunStreamsKnown
