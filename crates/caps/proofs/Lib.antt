pub mod Adding
pub mod Printing
pub mod Reading
pub mod Turns
