pub mod ExprTree
pub mod StatementTree
pub mod ProgramTree
