-- Definitions: of which kind each refusal of a type is.
pub mod Refusals
