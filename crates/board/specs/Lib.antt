pub mod ListPromises
pub mod SinkPromises
pub mod SummaryPromises
pub mod MessagePromises
pub mod Rows
pub mod Promises
