pub mod Trim
pub mod Promises
pub mod Work
