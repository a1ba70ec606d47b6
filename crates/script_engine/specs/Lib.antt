pub mod AppletCommand
pub mod FileCommand
pub mod Part
pub mod Run
pub mod Step
pub mod Wants
