mod Answered
mod Beginning
mod Changing
mod Coming
mod Confirming
mod Continuing
mod Delivering
mod Ending
mod Gathering
mod Handing
mod Leaving
mod Looping
pub mod NoJobs
mod Numbers
mod Offering
mod OneList
mod OneLog
mod Owing
mod Parting
pub mod Passed
mod Placing
mod Posting
mod Refusing
mod Rounding
mod Sending
mod Settling
mod Slices
mod Stamping
mod Starting
pub mod Steps
mod Stops
mod Taking
mod Telling
mod Wired
mod Zips
