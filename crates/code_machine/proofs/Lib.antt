pub mod Equipping
pub mod StepsLead
pub mod Weighing
pub mod Bursting
pub mod AnswerRoom
