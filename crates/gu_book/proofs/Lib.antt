pub mod Vocabulary
pub mod Takings
pub mod ByNumber
pub mod Within
pub mod Refused
pub mod Keeps
pub mod PartsKept
pub mod Charging
mod Dealing
pub mod ChangesKept
mod Opening
pub mod HoldingRows
pub mod Holdings
pub mod Standings
pub mod LookedUp
pub mod Parties
mod Once
pub mod Sound
pub mod Leaves
pub mod Placed
pub mod Positions
pub mod Orders
pub mod Restored
pub mod Ready
pub mod PartyNames
pub mod LastRefusal
pub mod Filed
pub mod FiledChanges
pub mod AllShown
mod Visited
mod OnePlace
pub mod Undoing
pub mod FiledLess
pub mod Gone
pub mod Crossing
mod PartsAway
mod Cited
mod LiveStates
mod Books
