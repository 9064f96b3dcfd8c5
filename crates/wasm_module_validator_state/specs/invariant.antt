-- Definitions: when the state of a module stands for a tree.
pub mod Standing
-- Laws, with the proofs. `Worked` there has worked rows.
pub mod laws
-- Definitions and laws: a module that is being read stands for the tree of what was read.
pub mod so_far
