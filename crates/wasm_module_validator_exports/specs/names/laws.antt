-- Laws: worked rows.
pub mod Names
