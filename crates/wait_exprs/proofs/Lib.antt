pub mod BodyViews
pub mod ItemViews
pub mod Same
pub mod Splitting
