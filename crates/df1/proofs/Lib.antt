pub mod Laws
pub mod Parts
pub mod Answers
pub mod Theorem
pub mod Cases
