pub mod Buffer
pub mod Digits
