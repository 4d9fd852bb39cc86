pub mod Outcomes
pub mod OwnValues
pub mod ExprLies
pub mod StatementsLie
pub mod BodiesLie
