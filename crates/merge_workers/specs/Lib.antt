pub mod Carried
pub mod Seals
pub use Rattle.row_merge.specs as row_merge
pub use Rattle.shared_store.specs as shared_store
