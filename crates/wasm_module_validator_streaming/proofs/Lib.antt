-- What a step of a module that comes in pieces leads to.
pub mod Stepping
-- What is told of the front of bytes.
pub mod Fronts
-- One piece more of a reader.
pub mod OnePiece
-- One item more of the bytes that came.
pub mod OneItem
-- The judge that is kept from body to body.
pub mod KeptJudge
-- Bytes that hold no whole item.
pub mod Waiting
-- Bytes that are handed over.
pub mod Handed
-- A module whose pieces are handed over.
pub mod HandedModule
-- A module that is judged to its end.
pub mod Lost
pub mod ToEnd
