-- What is true can be accepted: the decision tree, and its steps written as a record. And that the tails which the tree does not
-- have, those of kinds 3 and 5, are read as they are written.
pub mod Typed
pub mod Codes
pub mod Paths
pub mod Tree
pub mod Bytes
pub mod Tails
pub mod Stored
pub mod Tables
pub mod Packed
pub mod Bodies
pub mod Written
pub mod Least
