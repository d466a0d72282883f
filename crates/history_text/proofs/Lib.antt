pub mod Parting
pub mod NumberRead
pub mod Naming
pub mod KindOf
pub mod LineRead
