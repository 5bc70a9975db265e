pub mod Instants
pub mod Packings
pub mod Texts
pub mod Times
