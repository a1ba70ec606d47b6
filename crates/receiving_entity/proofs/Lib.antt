pub mod FirstBlock
pub mod AnswerLemmas
pub mod RunLemmas
pub mod VerdictLemmas
pub mod TakeLemmas
pub mod CardLemmas
