pub mod Lines
pub mod Kept
pub mod Orders
pub mod Sums
