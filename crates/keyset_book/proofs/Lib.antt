pub mod CounterLemmas
pub mod PositionLemmas
pub mod PastLemmas
pub mod RuleLemmas
pub mod EnteringLemmas
pub mod AskedLemmas
pub mod BatchLemmas
