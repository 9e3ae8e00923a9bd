pub mod Ranges
pub mod Sizes
pub mod Words
pub mod Defaults
pub mod FormalLists
pub mod Drafts
pub mod Headers
