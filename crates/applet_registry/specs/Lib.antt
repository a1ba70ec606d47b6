pub mod Aid
pub mod Commands
pub mod DataBlock
pub mod Fields
pub mod Keyset
pub mod Sound
pub mod State
pub mod Status
