pub mod Bytes
pub mod Show
pub mod Grammar
pub mod Line
pub mod Reader
pub mod Collect
pub mod Chunks
