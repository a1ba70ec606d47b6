pub mod Numbers
pub mod Meaning
pub mod Views
pub mod Grown
pub mod Rule
pub mod Plays
pub mod Locks
