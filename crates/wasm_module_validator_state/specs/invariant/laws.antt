pub mod Deciding
pub mod Beginning
pub mod Naming
pub mod Behind
pub mod Growing
pub mod Importing
pub mod Worked
