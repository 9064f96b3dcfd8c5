pub mod Context
pub mod Adding
pub mod Importing
pub mod Written
pub mod Named
pub mod Referring
pub mod Judging
pub mod Limits
