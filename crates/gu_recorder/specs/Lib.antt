pub mod Waiting
pub mod Recording
pub mod Replicas
pub mod DiskJournals
pub mod Standing
