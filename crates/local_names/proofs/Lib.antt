pub mod BodyViews
pub mod ItemViews
