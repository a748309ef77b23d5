pub mod Moves
pub mod Running
pub mod Workers
pub mod Crossing
