pub mod Listed
pub mod Turning
pub mod Promises
pub mod Index
pub mod Counts
