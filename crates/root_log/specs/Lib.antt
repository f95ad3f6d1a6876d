pub use Rattle.root_commits.specs.durable_commit
pub use Rattle.root_opening.specs.part_set
pub use Rattle.root_commits.specs as root_commits
pub use Rattle.root_opening.specs as root_opening
pub use Rattle.root_opening.specs.root_store
