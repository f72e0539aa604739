mod Parting
mod Reading
mod Simple
