pub mod Actions
pub mod Controls
