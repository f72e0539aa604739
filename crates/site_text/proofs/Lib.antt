mod Parting
mod Counting
mod Composing
mod Heading
