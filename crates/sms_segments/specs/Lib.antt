pub mod Header
pub mod Cut
pub mod Kept
pub mod Assembled
pub mod Arrivals
