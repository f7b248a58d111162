mod Initialisers
mod Items
mod Lengths
mod Objects
