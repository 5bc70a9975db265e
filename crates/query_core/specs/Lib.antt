pub mod BySite
pub mod Counted
pub mod KnownItems
pub mod Laws
pub mod Lists
pub mod Mentions
pub mod Recalls
pub mod Stuck
