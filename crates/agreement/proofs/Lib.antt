pub mod Agreement
pub mod Examples
