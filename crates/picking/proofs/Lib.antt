pub mod Picking
pub mod Runs
