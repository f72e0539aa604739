mod Saying
mod Flowing
mod Drafting
mod Parting
mod Grading
