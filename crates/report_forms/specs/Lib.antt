pub mod Accounts
pub mod Csv
pub mod Dot
pub mod Evidence
pub mod Laws
