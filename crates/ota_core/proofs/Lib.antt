pub mod KeysetListLemmas
pub mod HistoryLemmas
pub mod RuleLaws
