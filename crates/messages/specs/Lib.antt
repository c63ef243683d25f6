pub mod LowFirst
pub mod Headers
pub mod Refusing
pub mod Reading
pub mod Writing
pub mod Kept
pub mod Promises
