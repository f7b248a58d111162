mod Places
mod Lookups
mod Puts
mod FirstPlaces
