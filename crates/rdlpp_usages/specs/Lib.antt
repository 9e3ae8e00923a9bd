pub mod Usages
pub mod Store
pub mod Reads
pub mod CallActions
pub mod CallReads
