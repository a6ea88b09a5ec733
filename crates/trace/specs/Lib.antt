pub mod Sections
pub mod Sizes
