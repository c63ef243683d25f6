pub mod BothWays
pub mod Saying
pub mod Requests
pub mod NoKind
pub mod Readings
pub mod Unread
pub mod RoundTrips
