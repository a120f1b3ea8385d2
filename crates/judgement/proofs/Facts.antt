-- Facts and tests agree: accepted exactly when, within exactly when, and how a record closes.
pub mod Layouts
pub mod Alone
pub mod FirstByte
pub mod Copy
pub mod IndependentSet
pub mod Resolvent
pub mod WeightedSet
pub mod Inferences
pub mod Close
pub mod Accepted
pub mod Strict
pub mod Shown
