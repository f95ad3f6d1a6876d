pub mod DataRows
pub mod PushedRows
pub mod ReadAgain
pub mod SignedRows
