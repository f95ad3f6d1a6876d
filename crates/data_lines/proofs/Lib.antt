pub mod DataLines
pub mod LineParts
pub mod LineRuns
pub mod Marks
pub mod Sections
