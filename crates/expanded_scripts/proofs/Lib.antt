pub mod Entries
pub mod Forms
pub mod Grammar
pub mod ReadBack
pub mod TemplateLaws
pub mod Values
