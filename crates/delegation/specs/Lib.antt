pub mod Loans
pub mod Below
pub mod Images
pub mod Picking
pub mod Search
pub mod ChainUnit
