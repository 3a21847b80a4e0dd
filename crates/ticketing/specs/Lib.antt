pub mod Machine
pub mod Order
pub mod Image
pub mod Unit
pub mod Agreement
pub mod Promises
