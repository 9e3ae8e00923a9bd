pub mod Limits
pub mod Macros
pub mod Define
pub mod Plain
pub mod Formals
pub mod NewMacro
pub mod Table
pub mod Defined
