pub mod Layers
pub mod Popping
pub mod Fits
pub mod Leaving
pub mod Setting
pub mod MoreLocals
pub mod Numbers
pub mod Peeks
pub mod Lying
pub mod Combining
pub mod Sharing
pub mod NumberTypes
-- The parameters of a function as its locals.
pub mod Params
