pub mod CountsInRange
pub mod StatementsCounted
pub mod CompiledTalks
pub mod CompilableExample
