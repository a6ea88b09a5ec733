pub mod Advance
pub mod Pairs
pub mod Pulses
pub mod SideBySide
