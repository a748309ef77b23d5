pub mod OneMore
pub mod Filings
