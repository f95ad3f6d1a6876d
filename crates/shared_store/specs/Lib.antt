pub mod Engines
pub mod Handed
pub mod Levels
pub mod Sharing
pub mod Stood
pub mod Tallies
pub mod Turns
pub mod Works
pub use Rattle.root_commits.specs.digest_file
pub use Rattle.root_commits.specs.durable_commit
pub use Rattle.history_seat.specs as history_seat
pub use Rattle.merge_select.specs as merge_select
pub use Rattle.root_commits.specs.mutation_queue
pub use Rattle.root_commits.specs.part_name
pub use Rattle.root_commits.specs.part_reader
pub use Rattle.root_commits.specs.part_set
pub use Rattle.root_commits.specs.part_writer
pub use Rattle.root_commits.specs as root_commits
pub use Rattle.root_commits.specs.root_store
pub use Rattle.root_commits.specs.stage_dir
