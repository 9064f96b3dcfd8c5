pub mod Adding
pub mod Comparing
pub mod Counting
pub mod Arms
