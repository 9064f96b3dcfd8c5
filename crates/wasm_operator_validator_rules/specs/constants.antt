-- The rules of constant expressions: definitions.
pub mod Constants
-- Worked operators, a pair for each rule.
pub mod Worked
