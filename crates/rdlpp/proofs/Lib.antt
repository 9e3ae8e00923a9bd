pub mod Runs
pub mod Renewals
