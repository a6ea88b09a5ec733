pub mod Buffer
pub mod Bytes
pub mod Lines
