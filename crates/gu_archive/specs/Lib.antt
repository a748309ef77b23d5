pub mod Lines
pub mod Taps
