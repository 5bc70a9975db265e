pub mod Accounts
pub mod AccountTexts
pub mod Json
pub mod Shown
pub mod Telling
pub mod Writing
