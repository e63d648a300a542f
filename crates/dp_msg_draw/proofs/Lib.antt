mod Lengths
mod Pixels
mod Forms
mod Comparing
