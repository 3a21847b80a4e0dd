pub mod Distinct
pub mod Spread
pub mod Tally
pub mod Places
