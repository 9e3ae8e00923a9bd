pub mod LineArguments
pub mod Stretches
pub mod Insides
pub mod TextLeft
pub mod NamedDirectives
pub mod DirectivesLeft
