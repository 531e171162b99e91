mod Plain
mod Denominators
mod Replying
mod Ending
