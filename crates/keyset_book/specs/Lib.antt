pub mod Tables
pub mod Answers
pub mod Book
pub mod Rules
pub mod Asked
pub mod Entering
