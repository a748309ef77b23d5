pub mod Archived
pub mod Keeping
pub mod Sending
