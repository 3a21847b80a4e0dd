pub mod Places
pub mod Records
pub mod Images
pub mod Order
pub mod Agreement
pub mod Ends
pub mod Promises
pub mod Examples
