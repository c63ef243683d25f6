pub mod Units
pub mod Ranges
pub mod Rounding
pub mod Measure
pub mod Promises
