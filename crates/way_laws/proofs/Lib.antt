mod Settling
mod Ending
mod Running
mod Entries
