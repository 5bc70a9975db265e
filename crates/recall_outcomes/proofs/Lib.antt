pub mod BatchLaws
pub mod StatusLaws
