pub mod Places
pub mod Numbers
pub mod Admission
pub mod Fields
pub mod Commands
