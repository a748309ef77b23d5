pub mod Causes
pub mod Gaps
pub mod Metrics
pub mod Pages
pub mod Parts
pub mod Samples
pub mod Warning
pub mod Words
