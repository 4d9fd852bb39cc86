pub mod NameText
pub mod Spelling
pub mod ExprTree
pub mod ItemTree
pub mod LocalTree
pub mod ModeTree
pub mod SimpleTree
pub mod StatementTree
