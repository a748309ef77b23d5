pub mod Chains
pub mod Hashing
pub mod History
pub mod Marks
pub mod Newest
