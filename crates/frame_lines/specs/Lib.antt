pub mod Chains
pub mod Finding
pub mod Laws
pub mod Lines
pub mod Sums
