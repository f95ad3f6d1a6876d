pub mod Core
pub mod Runs
pub mod Steps
pub mod Store
pub use Rattle.part_history.specs.mt_model
pub use Rattle.part_history.specs as part_history
pub use Rattle.part_history.specs.part_name
pub use Rattle.part_history.specs.predicate
pub use Rattle.mutation_queue.specs as mutation_queue
pub use Rattle.mutation_queue.specs.part_set
