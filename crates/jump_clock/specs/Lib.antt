pub mod Ends
pub mod Dries
pub mod Jumps
