pub mod Making
pub mod Steps
pub mod Writes
pub mod Servers
