pub mod UsageOpens
pub mod Halts
pub mod Takes
pub mod CallLoop
