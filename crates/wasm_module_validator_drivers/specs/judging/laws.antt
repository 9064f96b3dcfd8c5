pub mod Judged
pub mod Parts
