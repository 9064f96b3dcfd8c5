pub mod Among
pub mod laws
