pub mod ExprTaken
pub mod ExprTracked
pub mod Expressing
pub mod Longest
pub mod Marked
pub mod Repeats
pub mod Taken
pub mod Tracked
