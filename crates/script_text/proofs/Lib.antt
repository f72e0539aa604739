mod Acting
mod Placing
mod Counting
mod Composing
