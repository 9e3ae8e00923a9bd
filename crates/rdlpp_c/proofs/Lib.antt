pub mod Outputs
pub mod Values
pub mod Quiet
pub mod Onces
pub mod Reopens
