pub mod Taking
pub mod Limits
pub mod Judging
pub mod Answering
pub mod Ignoring
pub mod At15V
pub mod Promises
