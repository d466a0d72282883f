pub mod Alike
pub mod Outcomes
