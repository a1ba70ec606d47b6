pub mod Causes
pub mod Complete
pub mod EndLaws
pub mod NineWords
pub mod RowLaws
pub mod Sound
pub mod WrittenBack
mod Untouched
pub mod Responses
