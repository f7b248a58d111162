mod Composed
