-- A box, taken apart.
pub mod LooseValues
-- The place of a module.
pub mod PlaceValues
-- The place of types.
pub mod KeptValues
-- What the answer of a module in pieces tells.
pub mod HandedPieces
