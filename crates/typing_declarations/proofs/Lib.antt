mod Objects
mod Finished
mod Items
