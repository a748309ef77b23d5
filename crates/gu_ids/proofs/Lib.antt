pub mod Chained
pub mod Links
pub mod Marked
pub mod NewestLaws
pub mod SipSteps
pub mod Walk
