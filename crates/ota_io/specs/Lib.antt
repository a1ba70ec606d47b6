pub mod Calls
pub mod InMemory
pub mod Octets
pub mod ReadErr
