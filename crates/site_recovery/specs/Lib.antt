pub mod Checking
pub mod Fit
pub mod FittingAt
pub mod Laws
pub mod Looks
pub mod Misfits
pub mod Recalls
