-- operators that were told at once
pub mod AtOnce
