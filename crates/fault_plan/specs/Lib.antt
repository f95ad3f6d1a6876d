pub mod Images
pub mod Plan
