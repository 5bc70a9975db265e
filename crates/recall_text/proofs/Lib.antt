pub mod FieldLemmas
pub mod FormLemmas
pub mod LineLemmas
pub mod NumberLemmas
pub mod OutcomeLemmas
pub mod SiteListLaws
pub mod SiteListLemmas
