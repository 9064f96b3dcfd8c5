-- Rules: the soundness of bodies that a validator accepts.
pub mod Accepted
