pub mod Apdu
pub mod Compact
pub mod Refusal
pub mod Reply
pub mod Script
pub mod ScriptLaws
