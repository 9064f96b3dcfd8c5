-- Rules: what is promised of the place of a fault.
pub mod Places
