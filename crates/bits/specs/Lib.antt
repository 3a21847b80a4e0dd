pub mod Sets
pub mod Bits
pub mod Cells
pub mod Zeros
