mod Turns
mod Histories
