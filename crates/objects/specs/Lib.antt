pub mod Bits
pub mod Layout
pub mod Decode
pub mod Reserved
pub mod Asking
pub mod Encode
pub mod Promises
