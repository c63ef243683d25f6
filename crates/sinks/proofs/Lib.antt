pub mod SinkWords
pub mod Ceilings
pub mod Readings
pub mod Makings
pub mod Figures
pub mod Checks
pub mod RoundTrips
pub mod Unread
