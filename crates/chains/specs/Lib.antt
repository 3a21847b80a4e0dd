pub mod InShape
pub mod Ready
