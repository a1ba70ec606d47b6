pub mod Commands
pub mod Fresh
pub mod Kind
pub mod Path
pub mod Replies
pub mod Sound
pub mod State
