pub mod Beginning
pub mod Clearing
pub mod Fixing
pub mod Live
pub mod Owners
pub mod Taking
pub mod TakingBack
pub mod Telling
