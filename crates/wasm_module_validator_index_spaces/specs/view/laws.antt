-- Laws: worked rows.
pub mod Entities
