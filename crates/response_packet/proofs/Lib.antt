pub mod OpenedLemmas
pub mod AnsweredLemmas
pub mod PartLemmas
