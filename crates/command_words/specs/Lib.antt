pub mod Drills
pub mod Options
pub mod Values
pub mod Words
