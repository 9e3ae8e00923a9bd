pub mod Stacking
pub mod Calling
pub mod Passing
pub mod Usages
pub mod Scoping
pub mod Stopping
pub mod Falling
pub mod TakenSteps
pub mod QuickTokens
pub mod CallLaws
pub mod PartLaws
pub mod BoundParts
mod PlainRuns
