pub mod Limits
pub mod Faults
pub mod Places
pub mod Flags
pub mod Naming
pub mod Options
pub mod Lines
