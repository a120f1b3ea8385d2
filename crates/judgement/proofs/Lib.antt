pub mod Laws
pub mod Facts
pub mod Order
pub mod Sound
pub mod Complete
pub mod Longer
pub mod Promised
pub mod Cases
