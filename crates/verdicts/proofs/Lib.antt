pub mod Bools
pub mod First
pub mod Results
