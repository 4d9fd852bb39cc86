mod Words
mod ActionExamples
mod CallExamples
mod CompositeExamples
mod MeetingExamples
mod ValueExamples
pub mod EnoughFlows
pub mod EnoughExpressions
pub mod EnoughStatements
pub mod EnoughBodies
