pub mod Courses
pub mod Crashes
pub mod Damage
pub mod Endings
pub mod Headline
pub mod Promises
pub mod SeatServing
pub mod Serving
pub mod Sharing
pub mod Statuses
pub mod Worlds
pub use Rattle.root_log.specs as root_log
pub use Rattle.session.specs as session
