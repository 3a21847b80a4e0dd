pub mod Judging
pub mod Records
pub mod Filling
pub mod Finding
