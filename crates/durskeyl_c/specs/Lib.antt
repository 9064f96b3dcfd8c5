-- Rules: what C hands over, and what a number tells C of it, in reading order.
pub mod Settings
pub mod Told
pub mod Listed
pub mod Handles
pub mod Pieces
pub mod Kept
