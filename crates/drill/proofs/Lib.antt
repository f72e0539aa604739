mod Naming
mod Drawing
mod Making
