pub mod Narrow
pub mod Summaries
pub mod Taking
pub mod Answering
pub mod Promises
