pub mod Judging
pub mod Arms
pub mod Ending
