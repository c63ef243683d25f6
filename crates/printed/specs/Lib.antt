pub mod Ascii
pub mod Records
pub mod Printed
