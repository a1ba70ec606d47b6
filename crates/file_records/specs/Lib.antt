pub mod Binary
pub mod File
pub mod Made
pub mod Numbers
pub mod Rows
