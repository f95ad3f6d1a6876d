pub mod Digits
pub mod LineColumns
pub mod LineRows
pub mod Marking
pub mod MarkingRuns
pub mod Printed
pub mod Unescaping
