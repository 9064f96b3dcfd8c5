pub mod LebGroups
pub mod LebSigned
pub mod LebUnsigned
pub mod AtOnce
pub mod Cut
pub mod Kept
