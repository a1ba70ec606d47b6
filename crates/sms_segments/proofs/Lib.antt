pub mod CutLemmas
pub mod KeptLemmas
pub mod ArrivalLemmas
pub mod TakeLemmas
