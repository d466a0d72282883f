pub mod Heaps
pub mod Busies
pub mod Leaps
pub mod Runs
