mod Free
mod Locals
mod Expressions
mod Actions
mod Statements
mod Keeps
mod Parameters
pub mod Bodies
