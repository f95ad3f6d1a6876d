pub mod Answers
pub mod Lapses
pub mod Merges
pub mod Runs
pub mod Selects
pub mod Staged
pub mod Stops
pub mod Turns
pub use Rattle.replies.specs.mt_model
pub use Rattle.final_fold.specs.part_history
pub use Rattle.replies.specs as replies
pub use Rattle.replies.specs.run_streams
pub use Rattle.merge_workers.specs.shared_store
