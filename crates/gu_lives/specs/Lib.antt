pub mod Extends
pub mod Renumbered
pub mod Kept
pub mod Trades
pub mod Roll
