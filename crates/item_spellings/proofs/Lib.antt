pub mod Cutting
pub mod Lengths
pub mod LotKeys
pub mod LotParts
pub mod Naming
pub mod Steps
pub mod Words
pub mod Written
