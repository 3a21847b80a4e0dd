pub mod Folds
pub mod Loops
pub mod Place
pub mod Parts
pub mod Standing
