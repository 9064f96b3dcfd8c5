-- The rules of modules: definitions, in the order in which they are read.
pub mod Syntax
pub mod Binary
pub mod Spaces
pub mod Valid
pub mod Accepts
-- Laws: bytes fully spell at most one module; a valid module is valid outside its bodies.
pub mod UniqueLaws
pub mod ElementLaws
pub mod ModuleLaws
pub mod OutsideLaws
-- Worked modules: those that are valid and those that are not, a pair for each rule.
pub mod worked
