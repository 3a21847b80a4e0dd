pub mod Start
pub mod Replies
pub mod KeepsOrder
