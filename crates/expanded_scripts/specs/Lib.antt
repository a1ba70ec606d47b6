pub mod Answers
pub mod Decoded
pub mod Exact
pub mod Refused
pub mod Template
pub mod Written
