pub mod KeyPair
pub mod Laws
pub mod Modes
pub mod Streams
