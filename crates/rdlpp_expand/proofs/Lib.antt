pub mod RunFacts
pub mod Readings
pub mod TextFacts
pub mod Renewals
