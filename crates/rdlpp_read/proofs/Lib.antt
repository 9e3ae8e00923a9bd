pub mod Growing
pub mod BufferTokens
pub mod LogicalLines
pub mod ConditionStacks
