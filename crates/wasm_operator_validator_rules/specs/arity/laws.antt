pub mod Counting
pub mod Lookups
pub mod Exceptions
pub mod Objects
pub mod Proposals
pub mod Groups
