pub mod Calls
pub mod Buffer
pub mod Ahead
pub mod Filling
pub mod LogicalLines
pub mod Files
pub mod Conditions
pub mod ConditionMoves
