-- Rules and laws: constants judged in one pass over their bytes.
pub mod Steps
pub mod Fields
