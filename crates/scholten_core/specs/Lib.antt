pub mod Codes
pub mod OwnRecalls
pub mod Engagement
pub mod Changes
pub mod Effects
pub mod FreeNumbers
pub mod Replies
pub mod Laws
