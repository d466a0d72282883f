pub mod History
pub mod Hand
