pub mod Playing
pub mod Serving
