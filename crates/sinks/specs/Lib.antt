pub mod SinkWords
pub mod SinkLists
pub mod Kept
pub mod Rating
pub mod Promises
