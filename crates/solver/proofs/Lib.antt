mod Listing
mod Writing
mod Proving
mod Among
mod Answering
