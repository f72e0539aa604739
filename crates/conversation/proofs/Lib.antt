mod Bytes
mod Talks
mod Ending
mod Whole
