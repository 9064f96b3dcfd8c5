-- Rules and laws: visits of vectors of floats.
pub mod floats
-- Rules and laws: visits of vectors.
pub mod immediates
