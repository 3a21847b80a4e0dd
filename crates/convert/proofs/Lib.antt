pub mod Pending
pub mod Turned
