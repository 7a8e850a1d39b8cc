mod Beginnings
mod Steps
mod Views
