-- Definitions: a module in which each function may be referred to, and the functions that an expression refers to.
pub mod Referring
pub mod Naming
-- Laws of both.
pub mod ReferringLaws
pub mod NamingLaws
