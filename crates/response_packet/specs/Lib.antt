pub mod Response
pub mod Opened
