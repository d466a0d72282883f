pub mod Hands
pub mod Collecting
pub mod Returning
pub mod Turning
pub mod Living
