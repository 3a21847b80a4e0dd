pub mod Persons
pub mod Found
