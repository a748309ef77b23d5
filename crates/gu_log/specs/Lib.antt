pub mod Lines
pub mod Moments
pub mod Reading
pub mod Values
pub mod Words
