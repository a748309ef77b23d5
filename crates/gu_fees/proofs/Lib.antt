pub mod Charges
pub mod Dealings
pub mod Places
pub mod Walks
