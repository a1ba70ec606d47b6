pub mod BuiltLaws
pub mod CommandLemmas
pub mod CarriedLemmas
pub mod NamedLemmas
