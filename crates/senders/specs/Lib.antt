pub mod Pieces
pub mod Bench
pub mod Served
pub mod Desks
pub mod Rounds
pub mod Alone
pub mod Worked
pub mod Trials
