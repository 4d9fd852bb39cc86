pub mod ExprInRange
pub mod StatementInRange
pub mod Laws
pub mod Placed
