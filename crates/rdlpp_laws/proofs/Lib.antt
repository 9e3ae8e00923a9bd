pub mod LiteralSubstitution
pub mod TornCalls
pub mod TornTokens
pub mod LargerRuns
pub mod LargerOutputs
pub mod Rows
