pub mod CardLemmas
pub mod CountLemmas
pub mod OutcomeText
pub mod PacketLemmas
pub mod PlaceLemmas
pub mod Rows
