pub mod CommandLines
pub mod Converting
pub mod Ends
pub mod Leads
pub mod UnknownItems
pub mod Lives
pub mod Packs
pub mod Plans
