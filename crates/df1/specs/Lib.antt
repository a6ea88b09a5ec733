pub mod Frame
pub mod Parts
pub mod Cases
