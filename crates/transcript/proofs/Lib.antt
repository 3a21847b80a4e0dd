pub mod Text
pub mod Program
pub mod Forms
pub mod Split
pub mod Listing
pub mod Whole
