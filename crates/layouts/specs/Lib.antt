pub mod Machine
pub mod Admission
pub mod Layouts
pub mod Convert
pub mod Subjects
pub mod Live
pub mod Order
pub mod Laws
