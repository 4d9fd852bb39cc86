pub mod PowersetWords
pub mod PowersetMembers
