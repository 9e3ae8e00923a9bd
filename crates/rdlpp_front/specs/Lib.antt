pub mod Arguments
pub mod SkippedText
pub mod SourceItems
pub mod SourceLeft
