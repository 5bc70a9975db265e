pub mod EvidenceLaws
pub mod Guarding
pub mod Parts
pub mod Replacing
pub mod Drawing
pub mod RowLaws
pub mod TableLaws
pub mod TextLaws
