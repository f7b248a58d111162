mod Same
mod Tellings
mod Lists
mod Blocks
