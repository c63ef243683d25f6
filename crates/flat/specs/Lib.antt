pub mod Flat
pub mod Reading
pub mod Writing
pub mod Requesting
pub mod Kept
pub mod Unread
pub mod Promises
