mod Extremes
mod Loops
mod Parts
mod Products
mod Sizes
mod Steps
mod Sums
