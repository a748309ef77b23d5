pub mod Life
pub mod Status
