pub mod SecuredLemmas
pub mod SentLemmas
pub mod FieldLemmas
pub mod CheckLemmas
