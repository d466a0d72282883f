pub mod Sofars
