pub mod Appending
pub mod Lengths
pub mod HexDigits
pub mod Places
pub mod Digits
pub mod Telling
pub mod Decimals
