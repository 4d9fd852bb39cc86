pub mod KnownFrames
pub mod ExprFrames
pub mod ConstantFrames
pub mod ModeFrames
pub mod EntryFrames
pub mod ToldFrames
pub mod OneTable
