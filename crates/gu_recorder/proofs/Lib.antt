pub mod OnDisk
pub mod Waiting
