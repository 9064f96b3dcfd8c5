-- Definitions and worked rows: a list that is shared as it stands.
pub mod snapshots
-- Definitions, laws and worked rows: numbers in an order that the caller tells.
pub mod ordered
-- Rules and laws: interned types as plain data.
pub mod trees
-- Definitions and worked rows: supertypes, and ancestors by depth.
pub mod displays
