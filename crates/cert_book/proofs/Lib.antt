mod Lists
mod Putting
mod Sharing
mod Entering
mod Marking
mod Joining
mod Adding
mod Listing
mod Rising
mod Reading
mod Seeding
mod Passing
mod Keeping
pub mod Recording
