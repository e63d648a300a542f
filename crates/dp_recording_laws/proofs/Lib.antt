mod Lifting
mod Written
