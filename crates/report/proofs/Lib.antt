mod Pages
mod Prints
mod Days
