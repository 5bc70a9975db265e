pub mod Clocks
pub mod Instants
pub mod Keys
pub mod Links
pub mod ReadBack
pub mod Timestamps
