pub mod Around
pub mod ExprRanges
pub mod Messages
pub mod ActionRanges
pub mod StatementRanges
pub mod ProgramRanges
