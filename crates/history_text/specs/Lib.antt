pub mod Cuts
pub mod Parts
pub mod Numerals
pub mod Vocabulary
pub mod Fields
pub mod Causes
pub mod Readings
