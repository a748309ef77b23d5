pub mod Lack
pub mod Extended
pub mod Numbering
pub mod Opened
pub mod Carried
pub mod Losing
pub mod Reopened
pub mod Rolled
