mod Loops
mod Typings
mod LabelLists
pub mod Growth
pub mod StatementGrowth
mod Rules
mod ForRules
mod BlockRules
mod TreeForms
mod Outsides
