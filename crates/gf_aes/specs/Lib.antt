pub mod Field
pub mod Cipher
pub mod KeySchedule
pub mod Laws
