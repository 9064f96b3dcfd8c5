-- Definitions: numbers of operands in 32 bits.
pub mod Ended
