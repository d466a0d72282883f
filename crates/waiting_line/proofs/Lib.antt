pub mod Heaps
pub mod Puts
pub mod Sharing
pub mod Searches
