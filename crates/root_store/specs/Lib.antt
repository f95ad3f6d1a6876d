pub mod ByteOrder
pub mod Cores
pub mod Crashes
pub mod Damage
pub mod Entries
pub mod Roots
pub mod Shown
pub mod Soundness
pub mod Stores
pub use Rattle.part_reader.specs.digest_file
pub use Rattle.durable_commit.specs as durable_commit
pub use Rattle.table_core.specs.mt_model
pub use Rattle.table_core.specs.mutation_queue
pub use Rattle.table_core.specs.part_history
pub use Rattle.table_core.specs.part_set.part_name
pub use Rattle.part_reader.specs as part_reader
pub use Rattle.table_core.specs.part_set
pub use Rattle.part_reader.specs.part_writer
pub use Rattle.table_core.specs as table_core
