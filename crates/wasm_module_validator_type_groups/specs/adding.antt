-- Definitions: what is known of a list of types to which groups were added, and what adding one leaves.
pub mod Interned
-- Rules: a module to which they are added, and its groups one after the other.
pub mod Modules
-- Worked groups.
pub mod Worked
