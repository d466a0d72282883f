pub mod Records
pub mod Bytes
pub mod Turns
pub mod Preparing
pub mod Playing
