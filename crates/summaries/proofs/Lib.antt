pub mod NarrowFigures
pub mod Makings
pub mod Takings
pub mod Judgings
pub mod Answers
pub mod Agreement
pub mod Unread
