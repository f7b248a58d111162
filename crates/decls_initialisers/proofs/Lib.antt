mod Shapes
mod Strings
mod ConstantParts
mod Numbered
mod Readings
mod Rules
mod Layouts
