pub mod Turning
pub mod Addings
pub mod Drawing
