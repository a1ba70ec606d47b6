pub mod Chains
pub mod Codes
pub mod Macs
pub mod StreamLemmas
