-- The rules of types: definitions, in the order in which they are read.
pub mod Types
pub mod Each
pub mod Trees
pub mod Unfold
pub mod AbstractOrder
pub mod Below
pub mod Matches
pub mod Gates
pub mod ValidGroup
-- What they leave true of declared supertypes, and the standard's own rules of subtyping: definitions that only laws cite.
pub mod Chains
pub mod Standard
-- Worked types: trees and groups that the rules accept and refuse, a pair at least for each of their clauses.
pub mod worked
-- Their laws, with the proofs.
pub mod laws
-- Rules: indices, their bits and their text. `Bits` proves too that packing and unpacking undo one another.
pub mod Indices
pub mod Bits
pub mod Text
-- Laws, which src/laws.rt promises, and worked rows.
pub mod IndicesLaws
pub mod IndicesWorked
