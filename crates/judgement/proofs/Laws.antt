-- Laws of the definitions that every other proof cites.
pub mod Scan
pub mod Findings
pub mod Answers
pub mod Members
pub mod Membership
pub mod Models
pub mod Lists
pub mod Stored
pub mod Mark
pub mod Buffer
pub mod Patch
pub mod Table
pub mod Truth
pub mod Cost
pub mod Integers
pub mod ByVariable
