pub mod CodeGroups
