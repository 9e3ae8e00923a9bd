pub mod Searches
pub mod FolderSearches
