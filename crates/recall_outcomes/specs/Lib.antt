pub mod Batches
pub mod Laws
pub mod Missed
pub mod Statuses
