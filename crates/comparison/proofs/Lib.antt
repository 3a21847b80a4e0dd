pub mod Related
pub mod Comparison
pub mod Examples
