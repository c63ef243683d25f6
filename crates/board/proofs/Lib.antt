pub mod EmptiedTo
pub mod Shared
