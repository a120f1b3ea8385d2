pub mod Order
pub mod Sorted
pub mod Canonical
pub mod Promises
pub mod Words
