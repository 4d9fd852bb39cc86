pub mod PowersetWords
pub mod PowersetMembers
pub mod TopmostParts
pub mod Pushed
