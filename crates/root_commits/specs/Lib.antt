pub mod Commits
pub mod Events
pub mod Images
pub mod Merges
pub mod Publications
pub mod Turns
pub use Rattle.root_store.specs.digest_file
pub use Rattle.root_store.specs.durable_commit
pub use Rattle.root_store.specs.mt_model
pub use Rattle.root_store.specs.mutation_queue
pub use Rattle.root_store.specs.part_history
pub use Rattle.root_store.specs.part_name
pub use Rattle.root_store.specs.part_reader
pub use Rattle.root_store.specs.part_set
pub use Rattle.root_store.specs.part_writer
pub use Rattle.root_store.specs as root_store
pub use Rattle.root_store.specs.durable_commit.stage_dir
pub use Rattle.root_store.specs.table_core
