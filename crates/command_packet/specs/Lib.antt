pub mod Command
pub mod Carried
pub mod Laws
