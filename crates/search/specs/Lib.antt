pub mod Entry
pub mod Lending
pub mod Raised
pub mod Settled
